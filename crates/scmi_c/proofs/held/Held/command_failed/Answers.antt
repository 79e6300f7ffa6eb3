use Rattle.std.proofs.Common.{[], ◌∷◌, ◌++◌}
use Rattle.scmi_core.specs.declared.event.Event.{Event}
use Rattle.scmi_core.specs.declared.event.Event.TheVariants.{CommandFailed}
use Rattle.scmi_c.proofs.held.Held.command_failed.Goals as goal

pub invariant_of-self : goal.invariant_of-self
invariant_of-self c =
    let had = c.self.invariant in
    let event : Event = CommandFailed c.args.agent c.args.frame.now c.args.fault in (
      had.0 ++ event ∷ [],
      (c.in-Ok.ensures.event had.0 had.1.0, c.count.ensures.count had.0 event had.1.1),
    )
