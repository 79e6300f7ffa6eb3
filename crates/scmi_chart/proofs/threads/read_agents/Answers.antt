use Rattle.std.proofs.Common.{◌≡◌, ℕ, Ok, length, string_bytes, [], ap, sym, ◌∙◌, subst}
use Rattle.std.proofs.lemmas.List.{length-map}
use Rattle.scmi_board.specs.BoardText.{board_left}
use Rattle.scmi_board.specs.Lines.{lines_left}
use Rattle.scmi_plan.specs.RawPlan.{asked_board}
use Rattle.scmi_link.specs.Scripts.{AreScriptsOf}
use Rattle.scmi_text.specs.ScriptText.{scripts_of, with_line}
use Rattle.scmi_text.specs.TextLines.{after_lines}
use Rattle.scmi_chart.proofs.Inputs.{lines_same}
use Rattle.scmi_modes.proofs.Scripts.{scripts_of_agents}
use Rattle.scmi_chart.proofs.threads.read_agents.Goals as goal

pub returns-clause-scripts : goal.returns-clause-scripts
returns-clause-scripts c =
    let counted : c.in_ok-agent_count.field-0 ≡ length (asked_board c.in_ok-board.board).agents =
    c.in_ok-agent_count.ensures.agents
    ∙ sym (length-map c.in_ok-board.board.agents.items string_bytes) in
    subst (λ (n : ℕ). AreScriptsOf n c.in_ok-scripts.scripts.items) counted
    (scripts_of_agents c.in_ok-agent_count.field-0 c.in_ok-scripts.scripts.items
    c.in_ok-scripts.ensures.agents c.in_ok-scripts.ensures.distinct)

pub returns-clause-input : goal.returns-clause-input
returns-clause-input c =
    let same = lines_same c.new-lines.result c.args.bytes.now c.new-lines.ensures.rest
    c.new-lines.ensures.number in
    let counted : c.in_ok-agent_count.field-0 ≡ length (asked_board c.in_ok-board.board).agents =
    c.in_ok-agent_count.ensures.agents
    ∙ sym (length-map c.in_ok-board.board.agents.items string_bytes) in
    record {
      lines = lines_left c.read_board.new.lines;
      is_board = ap board_left (sym same) ∙ c.in_ok-board.ensures.board;
      are_scripts =
          subst (λ (n : ℕ). after_lines (with_line n) [] (lines_left c.read_board.new.lines)
          ≡ Ok (scripts_of c.in_ok-scripts.scripts.items)) counted c.in_ok-scripts.ensures.scripts;
    }
