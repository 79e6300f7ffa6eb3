use Rattle.std.proofs.Common.{◌∙◌}
use Rattle.scmi_board.specs.Lines.{line_of, lines_left}
use Rattle.scmi_text.proofs.TextLines.{lines_done, lines_go_on, lines_stop}
use Rattle.scmi_text.specs.ScriptText.{scripts_left, scripts_of, with_line}
use Rattle.scmi_text.proofs.scripts.read_scripts.Goals as goal

pub loop-line-preserved : goal.loop-line-preserved
loop-line-preserved c = record {
  agents = c.in_default-read_script_line.ensures.agents ∙ c.loop-line.invariant.agents;
  so_far = lines_go_on (with_line c.args.agents) (scripts_of c.loop-line.list.scripts.items)
      (scripts_of c.read_script_line.new.list.scripts.items)
      (lines_left c.loop-line.lines) (line_of c.in-Some.line) (lines_left c.next_line.new.self)
      (scripts_left c.args.agents c.args.lines.now) c.in-Some.ensures.lines
      (rw c.loop-line.invariant.agents at c.in_default-read_script_line.ensures.line)
      c.loop-line.invariant.so_far;
}

pub returns-in-Err-clause-scripts : goal.returns-in-Err-clause-scripts
returns-in-Err-clause-scripts c =
    rw c.in_script.ensures
    (lines_stop (with_line c.args.agents) (scripts_of c.loop-line.list.scripts.items)
    (lines_left c.loop-line.lines) (line_of c.in-Some.line) (lines_left c.next_line.new.self)
    (scripts_left c.args.agents c.args.lines.now) c.in-Err.error c.in-Some.ensures.lines
    (rw c.loop-line.invariant.agents at c.in-Err.ensures.line) c.loop-line.invariant.so_far)

pub returns-clause-scripts : goal.returns-clause-scripts
returns-clause-scripts c =
    rw c.into_scripts.ensures.scripts (lines_done (with_line c.args.agents)
    (scripts_of c.loop-line.list.scripts.items) (lines_left c.loop-line.lines) (scripts_left
    c.args.agents c.args.lines.now) c.in_default.ensures.lines c.loop-line.invariant.so_far)
