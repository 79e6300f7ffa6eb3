-- The agents of scripts.
use Rattle.std.specs.Prelude.{ℕ, List, map, nat_eq}
use Rattle.std.specs.List.{IsDistinct}
use Rattle.scmi_link.specs.declared.script.Script.{Script}

-- the agent of each script
abbrev pub agents_of : List Script → List ℕ
agents_of scripts = map (λ (script : Script). script.agent) scripts

-- no two scripts are of one agent
abbrev pub AreOfDistinctAgents : List Script → Type 0
AreOfDistinctAgents scripts = IsDistinct nat_eq (agents_of scripts)
