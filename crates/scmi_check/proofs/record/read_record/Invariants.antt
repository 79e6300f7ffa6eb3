use Rattle.std.proofs.Common.{◌≡◌, length}
use Rattle.scmi_board.specs.Lines.{lines_left}
use Rattle.scmi_check.specs.RecordText.{nothing_shown, shows_of, with_line}
use Rattle.scmi_text.specs.TextLines.{after_each_line}
use Rattle.scmi_check.proofs.record.read_record.Given as goal

abbrev pub invariant-loop-line : goal.invariant-loop-line
invariant-loop-line l =
    after_each_line (with_line l.agents) (shows_of l.so_far) (lines_left l.lines)
    ≡ after_each_line (with_line l.agents) (nothing_shown l.judged) (lines_left l.fn.lines)

abbrev pub decreases-loop-line : goal.decreases-loop-line
decreases-loop-line l = length l.lines.rest
