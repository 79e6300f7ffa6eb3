use Rattle.std.proofs.Common.{◌≡◌, length}
use Rattle.scmi_check.specs.LeftOut.{left_view, with_no_answers}
use Rattle.scmi_check.proofs.left_out.LeftOut.add_unanswered.Given as goal

abbrev pub invariant-commands : goal.invariant-commands
invariant-commands l = with_no_answers l.judged (left_view l.self) l.rest
    ≡ with_no_answers l.judged (left_view l.fn.self) l.commands

abbrev pub decreases-commands : goal.decreases-commands
decreases-commands l = length l.rest
