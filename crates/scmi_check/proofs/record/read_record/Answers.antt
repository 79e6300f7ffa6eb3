use Rattle.scmi_board.specs.Lines.{line_of, lines_left}
use Rattle.scmi_board.specs.LineError.{script_refusal}
use Rattle.scmi_text.proofs.TextLines.{each_done, each_goes_on, each_stops}
use Rattle.scmi_text.specs.TextLines.{after_each_line}
use Rattle.scmi_check.specs.RecordText.{nothing_shown, record_view, shows_of, with_line}
use Rattle.scmi_check.proofs.RecordLines.{fails_all, gives_all}
use Rattle.scmi_check.proofs.record.read_record.Goals as goal

pub loop-line-preserved : goal.loop-line-preserved
loop-line-preserved c =
    each_goes_on (with_line c.args.agents) (shows_of c.loop-line.so_far)
    (shows_of c.add_line.new.so_far) (lines_left c.loop-line.lines) (line_of c.in-Some.line)
    (lines_left c.next_line.new.self)
    (after_each_line (with_line c.args.agents) (nothing_shown c.args.judged.now)
    (lines_left c.args.lines.now)) c.in-Some.ensures.lines c.in_default-add_line.ensures
    c.loop-line.invariant

pub returns-in-Err-clause-record : goal.returns-in-Err-clause-record
returns-in-Err-clause-record c =
    let total = after_each_line (with_line c.args.agents) (nothing_shown c.args.judged.now)
    (lines_left c.args.lines.now) in
    rw c.in_script.ensures (fails_all (script_refusal c.in-Err.error c.in-Some.line.number) total
    (each_stops (with_line c.args.agents) (shows_of c.loop-line.so_far)
    (lines_left c.loop-line.lines) (line_of c.in-Some.line) (lines_left c.next_line.new.self)
    total c.in-Err.error c.in-Some.ensures.lines c.in-Err.ensures c.loop-line.invariant))

pub returns-clause-record : goal.returns-clause-record
returns-clause-record c =
    let total = after_each_line (with_line c.args.agents) (nothing_shown c.args.judged.now)
    (lines_left c.args.lines.now) in
    gives_all record_view c.finish.result (shows_of c.loop-line.so_far) total
    (each_done (with_line c.args.agents) (shows_of c.loop-line.so_far)
    (lines_left c.loop-line.lines) total c.in_default.ensures.lines c.loop-line.invariant)
    c.finish.ensures.record
