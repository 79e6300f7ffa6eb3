use Rattle.std.proofs.Common.{[], ◌∷◌, ◌++◌}
use Rattle.scmi_board.specs.Lines.{line_of, lines_left}
use Rattle.scmi_text.proofs.StepLemmas.{more_read, more_steps, step_fails}
use Rattle.scmi_text.proofs.TextLines.{lines_done, lines_go_on, lines_stop}
use Rattle.scmi_text.specs.StepList.{steps_in}
use Rattle.scmi_text.specs.StepText.{steps_left, with_step}
use Rattle.scmi_text.proofs.steps.read_steps_of.Goals as goal

pub loop-line-preserved : goal.loop-line-preserved
loop-line-preserved c =
    let read = c.loop-line.read.items in
    let line = c.in-Some.line.text in
    let step = c.in_default-read_step.field-0 in
    let is = c.in_default-read_step.ensures in
    record {
      are = rw c.in-Ok.ensures.items (more_read c.args.kinds c.args.agents read line step
          is.step is.agent is.kinds c.loop-line.invariant.are);
      so_far = rw c.in-Ok.ensures.items (lines_go_on (with_step c.args.kinds c.args.agents)
          (steps_in c.args.kinds c.args.agents read)
          (steps_in c.args.kinds c.args.agents (read ++ line ∷ []))
          (lines_left c.loop-line.lines) (line_of c.in-Some.line)
          (lines_left c.next_line.new.self)
          (steps_left c.args.kinds c.args.agents c.args.lines.now) c.in-Some.ensures.lines
          (more_steps c.args.kinds c.args.agents read line step is.step)
          c.loop-line.invariant.so_far);
    }

pub returns-in-Err-clause-steps : goal.returns-in-Err-clause-steps
returns-in-Err-clause-steps c =
    let read = steps_in c.args.kinds c.args.agents c.loop-line.read.items in
    rw c.in_script.ensures (lines_stop (with_step c.args.kinds c.args.agents) read
    (lines_left c.loop-line.lines) (line_of c.in-Some.line) (lines_left c.next_line.new.self)
    (steps_left c.args.kinds c.args.agents c.args.lines.now) c.in-Err.error
    c.in-Some.ensures.lines (step_fails c.args.kinds c.args.agents read
    c.in-Some.line.text.now c.in-Err.error c.in-Err.ensures.step) c.loop-line.invariant.so_far)

pub returns-clause-steps : goal.returns-clause-steps
returns-clause-steps c =
    rw c.of.ensures (lines_done (with_step c.args.kinds c.args.agents)
    (steps_in c.args.kinds c.args.agents c.loop-line.read.items) (lines_left c.loop-line.lines)
    (steps_left c.args.kinds c.args.agents c.args.lines.now) c.in_default.ensures.lines
    c.loop-line.invariant.so_far)
