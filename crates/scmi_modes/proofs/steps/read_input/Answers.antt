use Rattle.std.proofs.Common.{ℕ, ◌<◌, ◌≤◌, ◌^◌, ◌≡◌, length, Ok, Err, ap, subst, sym, ◌∙◌}
use Rattle.std.proofs.lemmas.List.{length-map}
use Rattle.std.proofs.lemmas.Result.{err_from_is_err_and}
use Rattle.std.specs.Prelude.{string_bytes}
use Rattle.scmi_board.specs.BoardText.{FailsBoard}
use Rattle.scmi_board.specs.BoardLines.{described}
use Rattle.scmi_board.specs.Lines.{LinesView, lines_left}
use Rattle.scmi_plan.specs.Board.{Board}
use Rattle.scmi_text.specs.TextLines.{FailsScript}
use Rattle.scmi_plan.specs.declared.plan_error.PlanError.{PlanError}
use Rattle.scmi_modes.proofs.BoardAgents.{agents_kept}
use Rattle.scmi_modes.proofs.Inputs.{board_fails, count_fails, few_agents, lines_same, rule_fails, script_fails, stands}
use Rattle.scmi_modes.specs.Input.{behind_mode, board_of_lines, script_of_lines}
use Rattle.scmi_modes.proofs.steps.read_input.Goals as goal

pub returns-in_err-said-clause-input : goal.returns-in_err-said-clause-input
returns-in_err-said-clause-input c =
    let bytes = c.args.bytes.now in
    let same =
    lines_same c.new-lines.result bytes c.new-lines.ensures.rest c.new-lines.ensures.number in
    let p = err_from_is_err_and c.from_residual.result c.from_residual.ensures.1 in
    rw (p.1, p.2) (board_fails (board_of_lines c.args.script) (script_of_lines c.args.script)
    bytes c.in_err-said.field-0.0 (subst (λ (l : LinesView). FailsBoard c.in_err-said.field-0.0
    (board_of_lines c.args.script l)) same c.in_err-said.ensures.board))

pub returns-in_err-agent_count-clause-input : goal.returns-in_err-agent_count-clause-input
returns-in_err-agent_count-clause-input c =
    let bytes = c.args.bytes.now in
    let same =
    lines_same c.new-lines.result bytes c.new-lines.ensures.rest c.new-lines.ensures.number in
    let said = described c.in_ok-said.said in
    let board = said.0 in
    let lines = lines_left c.read_described.new.lines in
    let found : board_of_lines c.args.script (behind_mode bytes) ≡ Ok (said, lines) =
    ap (board_of_lines c.args.script) (sym same) ∙ c.in_ok-said.ensures.board in
    let many = c.in_err-agent_count.ensures.count.0
    (ap (λ (e : PlanError). Err e) c.in_err-agent_count.ensures.errors) in
    let all : 2 ^ 32 ≤ length board.agents = subst (λ (n : ℕ). 2 ^ 32 ≤ n)
    (sym (length-map c.in_ok-said.said.board.agents.items string_bytes)) many in
    let p = err_from_is_err_and c.from_residual-in_err-agent_count.result
    c.from_residual-in_err-agent_count.ensures.1 in
    rw (p.1, p.2, c.in_err-agent_count.ensures.errors) (count_fails (board_of_lines c.args.script)
    (script_of_lines c.args.script) bytes said lines found all)

pub returns-in_err-steps-clause-input : goal.returns-in_err-steps-clause-input
returns-in_err-steps-clause-input c =
    let bytes = c.args.bytes.now in
    let same =
    lines_same c.new-lines.result bytes c.new-lines.ensures.rest c.new-lines.ensures.number in
    let said = described c.in_ok-said.said in
    let board = said.0 in
    let lines = lines_left c.read_described.new.lines in
    let found : board_of_lines c.args.script (behind_mode bytes) ≡ Ok (said, lines) =
    ap (board_of_lines c.args.script) (sym same) ∙ c.in_ok-said.ensures.board in
    let counted : c.in_ok-agent_count.field-0 ≡ length board.agents =
    c.in_ok-agent_count.ensures.agents
    ∙ sym (length-map c.in_ok-said.said.board.agents.items string_bytes) in
    let few : length board.agents < 2 ^ 32 =
    few_agents (length c.in_ok-said.said.board.agents.items) (length board.agents)
    (λ many. let is = c.in_ok-agent_count.ensures.count.1 many in absurd cc)
    (length-map c.in_ok-said.said.board.agents.items string_bytes) in
    let fails = subst (λ (n : ℕ). FailsScript c.in_err-steps.field-0.0
    (script_of_lines c.args.script n lines)) counted c.in_err-steps.ensures.steps in
    let p = err_from_is_err_and c.from_residual-in_err-steps.result
    c.from_residual-in_err-steps.ensures.1 in
    rw (p.1, p.2) (script_fails (board_of_lines c.args.script)
    (script_of_lines c.args.script) bytes said lines found few c.in_err-steps.field-0.0 fails)

pub returns-in_err-plan-clause-input : goal.returns-in_err-plan-clause-input
returns-in_err-plan-clause-input c =
    let bytes = c.args.bytes.now in
    let same =
    lines_same c.new-lines.result bytes c.new-lines.ensures.rest c.new-lines.ensures.number in
    let said = described c.in_ok-said.said in
    let board = said.0 in
    let lines = lines_left c.read_described.new.lines in
    let found : board_of_lines c.args.script (behind_mode bytes) ≡ Ok (said, lines) =
    ap (board_of_lines c.args.script) (sym same) ∙ c.in_ok-said.ensures.board in
    let counted : c.in_ok-agent_count.field-0 ≡ length board.agents =
    c.in_ok-agent_count.ensures.agents
    ∙ sym (length-map c.in_ok-said.said.board.agents.items string_bytes) in
    let few : length board.agents < 2 ^ 32 =
    few_agents (length c.in_ok-said.said.board.agents.items) (length board.agents)
    (λ many. let is = c.in_ok-agent_count.ensures.count.1 many in absurd cc)
    (length-map c.in_ok-said.said.board.agents.items string_bytes) in
    let is : script_of_lines c.args.script (length board.agents) lines ≡ Ok c.in_ok-steps.steps =
    subst (λ (n : ℕ). script_of_lines c.args.script n lines ≡ Ok c.in_ok-steps.steps) counted
    c.in_ok-steps.ensures.steps in
    let p = err_from_is_err_and c.from_residual-in_err-plan.result
    c.from_residual-in_err-plan.ensures.1 in
    rw (p.1, p.2)
    (rule_fails (board_of_lines c.args.script) (script_of_lines c.args.script) bytes said lines
    found few c.in_ok-steps.steps c.in_err-plan.field-0.0 is c.in_err-plan.ensures.fault)

pub returns-clause-input : goal.returns-clause-input
returns-clause-input c =
    let bytes = c.args.bytes.now in
    let same =
    lines_same c.new-lines.result bytes c.new-lines.ensures.rest c.new-lines.ensures.number in
    let said = described c.in_ok-said.said in
    let board = said.0 in
    let lines = lines_left c.read_described.new.lines in
    let found : board_of_lines c.args.script (behind_mode bytes) ≡ Ok (said, lines) =
    ap (board_of_lines c.args.script) (sym same) ∙ c.in_ok-said.ensures.board in
    let counted : c.in_ok-agent_count.field-0 ≡ length board.agents =
    c.in_ok-agent_count.ensures.agents
    ∙ sym (length-map c.in_ok-said.said.board.agents.items string_bytes) in
    let few : length board.agents < 2 ^ 32 =
    few_agents (length c.in_ok-said.said.board.agents.items) (length board.agents)
    (λ many. let is = c.in_ok-agent_count.ensures.count.1 many in absurd cc)
    (length-map c.in_ok-said.said.board.agents.items string_bytes) in
    let is : script_of_lines c.args.script (length board.agents) lines ≡ Ok c.in_ok-steps.steps =
    subst (λ (n : ℕ). script_of_lines c.args.script n lines ≡ Ok c.in_ok-steps.steps) counted
    c.in_ok-steps.ensures.steps in
    stands (board_of_lines c.args.script) (script_of_lines c.args.script)
    bytes said lines found few c.in_ok-steps.steps is c.in_ok-plan.ensures.no_fault
    ∙ ap (λ (b : Board). Ok (b, c.in_ok-steps.steps)) (sym c.in_ok-plan.ensures.ok)

pub returns-clause-agents : goal.returns-clause-agents
returns-clause-agents c =
    let same : length c.in_ok-plan.plan.agents ≡ c.in_ok-agent_count.field-0 =
    ap (λ b. length b.agents) c.in_ok-plan.ensures.ok
    ∙ ap length (agents_kept (described c.in_ok-said.said).0 (described c.in_ok-said.said).1)
    ∙ length-map c.in_ok-said.said.board.agents.items string_bytes
    ∙ sym c.in_ok-agent_count.ensures.agents in
    rw same c.in_ok-steps.ensures.agents
