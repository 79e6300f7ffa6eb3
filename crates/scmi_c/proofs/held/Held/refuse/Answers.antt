use Rattle.std.proofs.Common.{[], ◌∷◌, ◌++◌, List, ap, ◌∙◌}
use Rattle.scmi_core.specs.Asked.{Asked, Refused}
use Rattle.scmi_core.specs.declared.event.Event.TheVariants.{CommandFailed}
use Rattle.scmi_c.specs.Standing.{Held}
use Rattle.scmi_c.proofs.Driving.{drives_refused, happened_said}
use Rattle.scmi_c.proofs.Askable.{askable-said, still-failed}
use Rattle.scmi_c.proofs.held.Held.refuse.Goals as goal

pub returns-clause-event : goal.returns-clause-event
returns-clause-event c =
    happened_said c.args.self.now c.command_failed.new.self _
    (CommandFailed c.args.agent c.args.frame.now c.args.fault) c.command_failed.ensures.event
    (ap (λ (p : Held). p.platform) c.self.view_is) (ap (λ (p : Held). p.events) c.self.view_is)

pub returns-clause-driven : goal.returns-clause-driven
returns-clause-driven c =
    drives_refused c.args.self.now _ c.args.agent c.args.frame.now c.args.effect c.args.fault
    (returns-clause-event c) c.requires.effect
    (c.and-self-inside.ensures
    ∙ ap (λ (p : Held). p.said ++ Refused c.args.effect c.args.fault ∷ []) c.self.view_is
    ∙ ap (λ (asks : List Asked). asks ++ Refused c.args.effect c.args.fault ∷ [])
    c.command_failed.ensures.said)

pub returns-clause-askable : goal.returns-clause-askable
returns-clause-askable c = λ command may.
    askable-said c.command_failed.new.self _ command (ap (λ (p : Held). p.platform) c.self.view_is)
    (ap (λ (p : Held). p.events) c.self.view_is)
    (still-failed c.args.self.now _ c.args.agent c.args.frame.now c.args.fault
    c.command_failed.ensures.history c.command_failed.ensures.event command may)
