use Rattle.std.proofs.Common.{sym, ◌∙◌}
use Rattle.scmi_clock.proofs.Flags.{rounds_nearest, rounds_up, rounds_down}
use Rattle.scmi_clock.proofs.set_flags.rounding_of.Goals as goal

pub returns-then-contains : goal.returns-then-contains
returns-then-contains c =
    rounds_nearest c.args.flags.0 (sym (c.contains.ensures tt) ∙ c.if-contains.true)

pub returns-then-contains-2 : goal.returns-then-contains-2
returns-then-contains-2 c = rounds_up c.args.flags.0 (sym (c.contains.ensures tt)
    ∙ c.if-contains.false) (sym (c.contains-else-contains.ensures tt) ∙ c.if-contains-2.true)

pub returns-else-contains-2 : goal.returns-else-contains-2
returns-else-contains-2 c = rounds_down c.args.flags.0 (sym (c.contains.ensures tt)
    ∙ c.if-contains.false) (sym (c.contains-else-contains.ensures tt) ∙ c.if-contains-2.false)
