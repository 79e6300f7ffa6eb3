-- Scripts as they are gathered, and as a text has them.
use Rattle.std.proofs.Common.{ℕ, zero, suc, ◌+◌, ◌<◌, ◌≡◌, Bool, true, false, cond, List, [], ◌∷◌, ◌++◌, length, map, get_or, set, Option, Some, None, refl, sym, ap, ◌∙◌, arith, nat_eq}
use Rattle.std.proofs.lemmas.List.{map-append}
use Rattle.std.specs.List.{list_any}
use Rattle.scmi_board.specs.Items.{◌>>=◌}
use Rattle.scmi_link.specs.declared.order.Order.{Order}
use Rattle.scmi_link.specs.declared.script.Script.{Script}
use Rattle.scmi_text.specs.Scripts.{agents_of}
use Rattle.scmi_text.specs.ScriptText.{AgentScript, script_of, scripts_of, with_order, with_script}

agents_same : (scripts : List Script)
    → map (λ (s : AgentScript). s.agent) (scripts_of scripts) ≡ agents_of scripts
agents_same [] = refl
agents_same (script ∷ scripts) =
    ap (λ (agents : List ℕ). script.agent ∷ agents) (agents_same scripts)

abbrev unless_any : List AgentScript → ℕ → Bool → Option (List AgentScript)
unless_any scripts agent had =
    cond had None (Some (scripts ++ record { agent = agent; orders = [] } ∷ []))

with_script_is : (scripts : List Script) (agent : ℕ) (had : Bool)
    → list_any (nat_eq agent) (agents_of scripts) ≡ had
    → with_script (scripts_of scripts) agent ≡ unless_any (scripts_of scripts) agent had
unfolding with_script
with_script_is scripts agent had is =
    ap (λ (agents : List ℕ). unless_any (scripts_of scripts) agent (list_any (nat_eq agent) agents))
    (agents_same scripts) ∙ ap (unless_any (scripts_of scripts) agent) is

-- one script more, of an agent that has none
pub script_more : (before scripts after : List Script) (agent : ℕ) (script : Script)
    → scripts ≡ before → after ≡ scripts ++ script ∷ [] → script.agent ≡ agent
    → script.lines.items ≡ [] → list_any (nat_eq agent) (agents_of before) ≡ false
    → with_script (scripts_of before) agent ≡ Some (scripts_of after)
script_more before scripts after agent script same pushed of empty fresh =
    let text : script_of script ≡ record { agent = agent; orders = [] } = rw (of, empty) refl in
    let all : scripts_of after ≡ scripts_of before ++ record { agent = agent; orders = [] } ∷ [] =
    ap scripts_of (pushed ∙ ap (λ (ss : List Script). ss ++ script ∷ []) same)
    ∙ map-append script_of before (script ∷ [])
    ∙ ap (λ (s : AgentScript). scripts_of before ++ s ∷ []) text in
    with_script_is before agent false fresh ∙ ap (λ (ss : List AgentScript). Some ss) (sym all)

-- a second script of an agent
pub script_again : (scripts : List Script) (agent : ℕ) → list_any (nat_eq agent) (agents_of scripts)
    ≡ true → with_script (scripts_of scripts) agent ≡ None
script_again scripts agent had = with_script_is scripts agent true had

no_script : (order : Order) → with_order [] order ≡ None
unfolding with_order
no_script order = refl

-- no order without a script
pub order_nowhere : (scripts : List Script) (order : Order) → (0 < length scripts → ⊥)
    → with_order (scripts_of scripts) order ≡ None
order_nowhere [] order none = no_script order
order_nowhere (script ∷ scripts) order none = absurd (none (omega arith))

one_script : (script : AgentScript) (order : Order) → with_order (script ∷ []) order
    ≡ Some (record { agent = script.agent; orders = script.orders ++ order ∷ [] } ∷ [])
unfolding with_order
one_script script order = refl

later_script : (script next : AgentScript) (scripts : List AgentScript) (order : Order)
    → with_order (script ∷ next ∷ scripts) order
    ≡ (with_order (next ∷ scripts) order >>= λ later. Some (script ∷ later))
unfolding with_order
later_script script next scripts order = refl

-- one order more in the last script
pub order_more : (scripts : List Script) (i : ℕ) (old new : Script) (order : Order) → i + 1 ≡ length
    scripts → old ≡ get_or scripts i old → new.agent ≡ old.agent → new.lines.items ≡ old.lines.items
    ++ order ∷ [] → with_order (scripts_of scripts) order ≡ Some (scripts_of (set scripts i new))
order_more [] i old new order last is of more = absurd (omega (arith, last))
order_more (script ∷ []) zero old new order last is of more =
    let text : script_of new ≡ record {
      agent = script.agent;
      orders = script.lines.items ++ order ∷ [];
    } = rw (of, more, is) refl in
    one_script (script_of script) order ∙ ap (λ (s : AgentScript). Some (s ∷ [])) (sym text)
order_more (script ∷ []) (suc i) old new order last is of more = absurd (omega (arith, last))
order_more (script ∷ next ∷ scripts) zero old new order last is of more =
    absurd (omega (arith, last))
order_more (script ∷ next ∷ scripts) (suc i) old new order last is of more =
    later_script (script_of script) (script_of next) (scripts_of scripts) order
    ∙ ap (λ (o : Option (List AgentScript)). o >>= λ later. Some (script_of script ∷ later))
    (order_more (next ∷ scripts) i old new order (omega (arith, last)) is of more)
