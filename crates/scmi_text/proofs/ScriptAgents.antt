-- The agents of scripts that are begun one after the other.
use Rattle.std.proofs.Common.{ℕ, ◌≡◌, Bool, true, false, not, cond, ◌||◌, List, [], ◌∷◌, ◌++◌, get_or, set, refl, sym, ap, ◌∙◌, arith, rules, nat_eq}
use Rattle.std.proofs.lemmas.Grind.{common_steps}
use Rattle.std.proofs.lemmas.Bool.Decides.{nat_tests}
use Rattle.std.proofs.Math.Seq.{map-set_same}
use Rattle.std.proofs.lemmas.List.Folds.{list_any-append}
use Rattle.std.proofs.lemmas.List.Elements.{All-append}
use Rattle.std.proofs.lemmas.List.{map-append}
use Rattle.std.specs.List.{All, list_any, IsDistinct}
use Rattle.std.specs.Ordering.{nat_cmp, is_eq}
use Rattle.std.specs.BTreeSet.{BTreeSet, contains, Updates}
use Rattle.scmi_plan.specs.Agent.{IsAgent}
use Rattle.scmi_link.specs.declared.script.Script.{Script}
use Rattle.scmi_text.specs.Scripts.{agents_of, AreOfDistinctAgents}

-- no scripts are of distinct agents
pub distinct_none : AreOfDistinctAgents []
unfolding IsDistinct
distinct_none = tt

-- a script whose orders have changed is of the same agent
pub same_agents : (scripts : List Script) (i : ℕ) (script old : Script) → old ≡ get_or scripts i old
    → script.agent ≡ old.agent → agents_of (set scripts i script) ≡ agents_of scripts
same_agents scripts i script old is same = map-set_same
    (λ (s : Script). s.agent) scripts i script old (same ∙ ap (λ (s : Script). s.agent) is)

-- two numbers compare equal where they are the same
pub equal_numbers : (a b : ℕ) → is_eq (nat_cmp a b) ≡ nat_eq b a
equal_numbers a b = grind (arith, nat_tests, common_steps)

either : (a b : Bool) → cond a true b ≡ (b || (a || false))
either true true = refl
either true false = refl
either false true = refl
either false false = refl

-- an agent that is put into a set of agents is one of them from then on
pub begun_more : (before after : BTreeSet ℕ) (agents : List ℕ) (agent : ℕ) → Updates nat_cmp before
    after agent true → ((q : ℕ) → contains nat_cmp before q ≡ list_any (nat_eq q) agents) → (q : ℕ)
    → contains nat_cmp after q ≡ list_any (nat_eq q) (agents ++ agent ∷ [])
begun_more before after agents agent updates begun q =
    updates.0 q ∙ ap (λ b. cond (is_eq (nat_cmp agent q)) true b) (begun q)
    ∙ ap (λ a. cond a true (list_any (nat_eq q) agents)) (equal_numbers agent q)
    ∙ either (nat_eq q agent) (list_any (nat_eq q) agents)
    ∙ sym (list_any-append (nat_eq q) agents (agent ∷ []))

-- all agents are the board's where one more is
pub within_more : (count : ℕ) (agents : List ℕ) (agent : ℕ) → All (IsAgent count) agents
    → IsAgent count agent → All (IsAgent count) (agents ++ agent ∷ [])
within_more count agents agent within is =
    All-append (IsAgent count) agents (agent ∷ []) within (search rules)

-- the agents after one more script
pub agents_pushed : (before scripts after : List Script) (script : Script) → scripts ≡ before
    → after ≡ scripts ++ script ∷ [] → agents_of after ≡ agents_of before ++ script.agent ∷ []
agents_pushed before scripts after script same pushed =
    rw (pushed, same) (map-append (λ (s : Script). s.agent) before (script ∷ []))

-- an agent that was not in the set has no script
pub not_begun : (is_first had any : Bool) → is_first ≡ not had → is_first ≡ true → had ≡ any
    → any ≡ false
not_begun true false false added first same = refl
not_begun true true any added first same = search (rules, sym added)
not_begun true false true added first same = sym same
not_begun false had any added first same = search (rules, sym first)

-- an agent that was in the set has a script
pub begun_before : (is_first had any : Bool) → is_first ≡ not had → is_first ≡ false → had ≡ any
    → any ≡ true
begun_before false true true added first same = refl
begun_before false true false added first same = search (rules, sym same)
begun_before false false any added first same = search (rules, sym added)
begun_before true had any added first same = search (rules, sym first)
