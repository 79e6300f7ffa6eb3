use Rattle.std.proofs.Common.{◌≡◌, length}
use Rattle.scmi_check.specs.Asking.{asking_view, with_all_asked}
use Rattle.scmi_check.proofs.asking.Asking.ask_all.Given as goal

abbrev pub invariant-commands : goal.invariant-commands
invariant-commands l = with_all_asked l.judged (asking_view l.self) l.rest
    ≡ with_all_asked l.judged (asking_view l.fn.self) l.commands

abbrev pub decreases-commands : goal.decreases-commands
decreases-commands l = length l.rest
