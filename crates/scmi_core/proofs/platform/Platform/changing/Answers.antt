use Rattle.std.proofs.Common.{◌≡◌, ◌≢◌, ◌++◌, ◌∷◌, [], None, true, sym, ap, subst, ◌∙◌}
use Rattle.std.specs.Prelude.{is_some}
use Rattle.scmi_codec.specs.declared.frame.Frame.TheVariants.{Good}
use Rattle.scmi_core.specs.Agreement.{Agrees}
use Rattle.scmi_core.specs.Effect.{effect_after}
use Rattle.scmi_core.specs.declared.event.Event.TheVariants.{Command as Called, CommandFailed}
use Rattle.scmi_core.proofs.Ties.{Agrees-command_failed}
use Rattle.scmi_core.proofs.platform.Platform.changing.Goals as goal

pub returns-in-Good-clause-event : goal.returns-in-Good-clause-event
returns-in-Good-clause-event c = λ fault some h stands.
    let board = c.args.self.now.board in
    let has : is_some c.effect_in-effect.result ≡ true = sym c.is_some.ensures
    ∙ c.if-is_some.true in
    let effect : effect_after board h (Called c.args.agent (Good c.in-Good.message))
    ≢ None = λ none.
    let same : c.effect_in-effect.result ≡ None = c.effect_in-effect.ensures.effect h stands
    ∙ ap (λ frame. effect_after board h (Called c.args.agent frame)) c.in-Good.is ∙ none in
    absurd (let no = sym has ∙ ap is_some same in cc) in
    subst (λ frame. Agrees board c.args.self.now.tables
    (h ++ CommandFailed c.args.agent frame fault ∷ [])) (sym c.in-Good.is)
    (Agrees-command_failed board c.args.self.now.tables h c.args.agent c.in-Good.message fault
    stands c.effect_in-effect.ensures.valid c.requires.agent.0 c.requires.agent.1 effect)
