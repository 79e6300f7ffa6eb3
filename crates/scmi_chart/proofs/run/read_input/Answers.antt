use Rattle.std.proofs.Common.{◌≡◌, ℕ, Ok, length, string_bytes, ap, sym, ◌∙◌, subst}
use Rattle.std.specs.List.{All}
use Rattle.std.proofs.lemmas.List.{length-map}
use Rattle.scmi_board.specs.BoardLines.{described}
use Rattle.scmi_board.specs.Lines.{lines_left}
use Rattle.scmi_text.specs.Step.{IsStepOf}
use Rattle.scmi_modes.specs.Input.{board_of_lines, script_of_lines}
use Rattle.scmi_chart.proofs.Inputs.{lines_same}
use Rattle.scmi_chart.proofs.run.read_input.Goals as goal

pub returns-clause-agents : goal.returns-clause-agents
returns-clause-agents c =
    let counted : c.in_ok-agent_count.field-0 ≡ length (described c.in_ok-said.said).0.agents =
    c.in_ok-agent_count.ensures.agents
    ∙ sym (length-map c.in_ok-said.said.board.agents.items string_bytes) in
    subst (λ (n : ℕ). All (IsStepOf n) c.in_ok-steps.steps) counted c.in_ok-steps.ensures.agents

pub returns-clause-input : goal.returns-clause-input
returns-clause-input c =
    let same = lines_same c.new-lines.result c.args.bytes.now c.new-lines.ensures.rest
    c.new-lines.ensures.number in
    let counted : c.in_ok-agent_count.field-0 ≡ length (described c.in_ok-said.said).0.agents =
    c.in_ok-agent_count.ensures.agents
    ∙ sym (length-map c.in_ok-said.said.board.agents.items string_bytes) in
    record {
      lines = lines_left c.read_described.new.lines;
      is_board = ap (board_of_lines c.args.script) (sym same) ∙ c.in_ok-said.ensures.board;
      are_steps =
          subst (λ (n : ℕ). script_of_lines c.args.script n (lines_left c.read_described.new.lines)
          ≡ Ok c.in_ok-steps.steps) counted c.in_ok-steps.ensures.steps;
    }
