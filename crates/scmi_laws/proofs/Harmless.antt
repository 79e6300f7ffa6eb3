-- A success of a command that only reads does nothing, and one of any other command does something.
use Rattle.std.proofs.Common.{◌≡◌, ℕ, ◌&&◌, Bool, true, false, Option, Some, None, option_map, refl, ap, ◌∙◌}
use Rattle.std.specs.Option.{option_or}
use Rattle.std.proofs.lemmas.Bool.{and_parts, eq-eqb}
use Rattle.scmi_codec.specs.declared.command.Command as codec
use Rattle.scmi_plan.specs.Board.{Board}
use Rattle.scmi_core.specs.Commands.{grants_nothing, later_effect_of, later_of, now_of, request_of, reset_of, setting_effect}
use Rattle.scmi_core.specs.Deed.{Success}
use Rattle.scmi_core.specs.Pending.{made_pending}
use Rattle.scmi_core.specs.Subscriptions.{subscription_after_reset}
use Rattle.scmi_core.specs.Value.{given}
use Rattle.scmi_core.proofs.CommandLaws.{command_laws, granting, ungranted}
use Rattle.scmi_laws.specs.Reads.{DoesNothing, is_read}

-- what is made of nothing is nothing
unmapped : {A B : Type 0} (f : A → B) (o : Option A) → option_map f o ≡ None → o ≡ None
unmapped f None is = refl
unmapped f (Some x) is = absurd (cc)

-- no reset, and no request
silent : (reset : Option ℕ) (request : ℕ → Option Bool)
    → ((a : ℕ) → option_or (subscription_after_reset a reset) (request a) ≡ None)
    → (reset ≡ None) × ((a : ℕ) → request a ≡ None)
silent None request none = (refl, none)
silent (Some agent) request none =
    absurd (let says = none agent in cc (says, eq-eqb agent agent refl))

pub harmless : (board : Board) (s : Success) → is_read s.command ≡ true → DoesNothing board s
harmless board s is =
    let both = and_parts _ _ is in
    let none = (command_laws board s.caller).quiet board s.command both.0 in
    let alone = ungranted board s.caller s.command both.1 in
    record {
      change = ap (option_map (given s.caller)) none.0;
      set = ap (option_map (made_pending s.caller s.header))
          (unmapped _ (later_of board s.command) none.1);
      permission = alone.1;
      subscription = λ a d.
          ap (λ r. option_or (subscription_after_reset a r) (request_of a d s.caller s.command))
          alone.0
          ∙ none.2 a d s.caller;
    }

pub complete : (board : Board) (s : Success) → DoesNothing board s → is_read s.command ≡ true
complete board s does =
    let now : now_of board s.command ≡ None = unmapped (given s.caller) _ does.change in
    let later : later_effect_of board s.command ≡ None =
    ap (option_map (λ l. setting_effect l.setting))
    (unmapped (made_pending s.caller s.header) _ does.set) in
    let reset : reset_of s.command ≡ None =
    (silent (reset_of s.command) (λ a. request_of a 0 s.caller s.command)
    (λ a. does.subscription a 0)).0 in
    let request : (d : ℕ) → request_of s.caller d s.caller s.command ≡ None = λ d.
    (silent (reset_of s.command) (λ a. request_of a d s.caller s.command)
    (λ a. does.subscription a d)).1 s.caller in
    ap (λ b. b && grants_nothing s.command)
    ((command_laws board s.caller).acts board s.command s.caller now later request)
    ∙ granting board s.caller s.command reset does.permission
