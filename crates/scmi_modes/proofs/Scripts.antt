-- The scripts that were read are scripts of the board's agents.
use Rattle.std.proofs.Common.{ℕ, ◌≤◌, List, subst, arith}
use Rattle.std.proofs.lemmas.List.{get_or-map, length-map}
use Rattle.std.specs.List.{All}
use Rattle.scmi_plan.specs.Agent.{IsAgent}
use Rattle.scmi_link.specs.declared.script.Script.{Script}
use Rattle.scmi_link.specs.Scripts.{AreScriptsOf}
use Rattle.scmi_text.specs.Scripts.{agents_of, AreOfDistinctAgents}

pub scripts_of_agents : (agents : ℕ) (scripts : List Script) → All (IsAgent agents)
    (agents_of scripts) → AreOfDistinctAgents scripts → AreScriptsOf agents scripts
scripts_of_agents agents scripts each distinct = record {
  each_of_an_agent = λ k d inside. subst (λ a. (1 ≤ a) × (a ≤ agents))
      (get_or-map (λ (s : Script). s.agent) scripts k d d.agent inside)
      (each k d.agent (omega (arith, inside, length-map scripts (λ (s : Script). s.agent))));
  one_of_each = distinct;
}
