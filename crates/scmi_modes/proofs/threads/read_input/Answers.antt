use Rattle.std.proofs.Common.{ℕ, ◌<◌, ◌≤◌, ◌^◌, ◌≡◌, [], length, Ok, Err, ap, subst, sym, ◌∙◌}
use Rattle.std.proofs.lemmas.List.{length-map}
use Rattle.std.proofs.lemmas.Result.{err_from_is_err_and}
use Rattle.std.specs.Prelude.{string_bytes}
use Rattle.scmi_board.specs.BoardText.{FailsBoard, board_left}
use Rattle.scmi_board.specs.Lines.{LinesView, lines_left}
use Rattle.scmi_plan.specs.Board.{Board}
use Rattle.scmi_plan.specs.RawPlan.{asked_board}
use Rattle.scmi_text.specs.TextLines.{FailsScript}
use Rattle.scmi_plan.specs.declared.plan_error.PlanError.{PlanError}
use Rattle.scmi_modes.proofs.Scripts.{scripts_of_agents}
use Rattle.scmi_text.specs.ScriptText.{scripts_of}
use Rattle.scmi_modes.proofs.Inputs.{board_fails, count_fails, few_agents, lines_same, plain_fails, rule_fails, script_fails, stands}
use Rattle.scmi_modes.specs.Input.{behind_mode, plain_board, scripts_of_lines, without_lines}
use Rattle.scmi_modes.proofs.threads.read_input.Goals as goal

pub returns-in_err-board-clause-input : goal.returns-in_err-board-clause-input
returns-in_err-board-clause-input c =
    let bytes = c.args.bytes.now in
    let same =
    lines_same c.new-lines.result bytes c.new-lines.ensures.rest c.new-lines.ensures.number in
    let p = err_from_is_err_and c.from_residual.result c.from_residual.ensures.1 in
    rw (p.1, p.2) (board_fails plain_board scripts_of_lines bytes c.in_err-board.field-0.0
    (plain_fails c.in_err-board.field-0.0 (board_left (behind_mode bytes))
    (subst (λ (l : LinesView). FailsBoard c.in_err-board.field-0.0 (board_left l)) same
    c.in_err-board.ensures.board)))

pub returns-in_err-agent_count-clause-input : goal.returns-in_err-agent_count-clause-input
returns-in_err-agent_count-clause-input c =
    let bytes = c.args.bytes.now in
    let same =
    lines_same c.new-lines.result bytes c.new-lines.ensures.rest c.new-lines.ensures.number in
    let board = asked_board c.in_ok-board.board in
    let lines = lines_left c.read_board.new.lines in
    let found : plain_board (behind_mode bytes) ≡ Ok ((board, []), lines) =
    ap without_lines (ap board_left (sym same) ∙ c.in_ok-board.ensures.board) in
    let many = c.in_err-agent_count.ensures.count.0
    (ap (λ (e : PlanError). Err e) c.in_err-agent_count.ensures.errors) in
    let all : 2 ^ 32 ≤ length board.agents = subst (λ (n : ℕ). 2 ^ 32 ≤ n)
    (sym (length-map c.in_ok-board.board.agents.items string_bytes)) many in
    let p = err_from_is_err_and c.from_residual-in_err-agent_count.result
    c.from_residual-in_err-agent_count.ensures.1 in
    rw (p.1, p.2, c.in_err-agent_count.ensures.errors)
    (count_fails plain_board scripts_of_lines bytes (board, []) lines found all)

pub returns-in_err-scripts-clause-input : goal.returns-in_err-scripts-clause-input
returns-in_err-scripts-clause-input c =
    let bytes = c.args.bytes.now in
    let same =
    lines_same c.new-lines.result bytes c.new-lines.ensures.rest c.new-lines.ensures.number in
    let board = asked_board c.in_ok-board.board in
    let lines = lines_left c.read_board.new.lines in
    let found : plain_board (behind_mode bytes) ≡ Ok ((board, []), lines) =
    ap without_lines (ap board_left (sym same) ∙ c.in_ok-board.ensures.board) in
    let counted : c.in_ok-agent_count.field-0 ≡ length board.agents =
    c.in_ok-agent_count.ensures.agents
    ∙ sym (length-map c.in_ok-board.board.agents.items string_bytes) in
    let few : length board.agents < 2 ^ 32 = few_agents (length c.in_ok-board.board.agents.items)
    (length board.agents) (λ many. let is = c.in_ok-agent_count.ensures.count.1 many in
    absurd cc) (length-map c.in_ok-board.board.agents.items string_bytes) in
    let fails = subst (λ (n : ℕ). FailsScript c.in_err-scripts.field-0.0 (scripts_of_lines n lines))
    counted c.in_err-scripts.ensures.scripts in
    let p = err_from_is_err_and c.from_residual-in_err-scripts.result
    c.from_residual-in_err-scripts.ensures.1 in
    rw (p.1, p.2) (script_fails plain_board scripts_of_lines bytes
    (board, []) lines found few c.in_err-scripts.field-0.0 fails)

pub returns-in_err-plan-clause-input : goal.returns-in_err-plan-clause-input
returns-in_err-plan-clause-input c =
    let bytes = c.args.bytes.now in
    let same =
    lines_same c.new-lines.result bytes c.new-lines.ensures.rest c.new-lines.ensures.number in
    let board = asked_board c.in_ok-board.board in
    let lines = lines_left c.read_board.new.lines in
    let found : plain_board (behind_mode bytes) ≡ Ok ((board, []), lines) =
    ap without_lines (ap board_left (sym same) ∙ c.in_ok-board.ensures.board) in
    let counted : c.in_ok-agent_count.field-0 ≡ length board.agents =
    c.in_ok-agent_count.ensures.agents
    ∙ sym (length-map c.in_ok-board.board.agents.items string_bytes) in
    let few : length board.agents < 2 ^ 32 = few_agents (length c.in_ok-board.board.agents.items)
    (length board.agents) (λ many. let is = c.in_ok-agent_count.ensures.count.1 many in
    absurd cc) (length-map c.in_ok-board.board.agents.items string_bytes) in
    let is : scripts_of_lines (length board.agents) lines
    ≡ Ok (scripts_of c.in_ok-scripts.scripts.items) = subst (λ (n : ℕ). scripts_of_lines n lines
    ≡ Ok (scripts_of c.in_ok-scripts.scripts.items)) counted c.in_ok-scripts.ensures.scripts in
    let p = err_from_is_err_and c.from_residual-in_err-plan.result
    c.from_residual-in_err-plan.ensures.1 in
    rw (p.1, p.2) (rule_fails plain_board scripts_of_lines bytes (board, []) lines found few
    (scripts_of c.in_ok-scripts.scripts.items) c.in_err-plan.field-0.0 is
    c.in_err-plan.ensures.fault)

pub returns-clause-input : goal.returns-clause-input
returns-clause-input c =
    let bytes = c.args.bytes.now in
    let same =
    lines_same c.new-lines.result bytes c.new-lines.ensures.rest c.new-lines.ensures.number in
    let board = asked_board c.in_ok-board.board in
    let lines = lines_left c.read_board.new.lines in
    let found : plain_board (behind_mode bytes) ≡ Ok ((board, []), lines) =
    ap without_lines (ap board_left (sym same) ∙ c.in_ok-board.ensures.board) in
    let counted : c.in_ok-agent_count.field-0 ≡ length board.agents =
    c.in_ok-agent_count.ensures.agents
    ∙ sym (length-map c.in_ok-board.board.agents.items string_bytes) in
    let few : length board.agents < 2 ^ 32 = few_agents (length c.in_ok-board.board.agents.items)
    (length board.agents) (λ many. let is = c.in_ok-agent_count.ensures.count.1 many in
    absurd cc) (length-map c.in_ok-board.board.agents.items string_bytes) in
    let is : scripts_of_lines (length board.agents) lines
    ≡ Ok (scripts_of c.in_ok-scripts.scripts.items) = subst (λ (n : ℕ). scripts_of_lines n lines
    ≡ Ok (scripts_of c.in_ok-scripts.scripts.items)) counted c.in_ok-scripts.ensures.scripts in
    stands plain_board scripts_of_lines bytes (board, []) lines found few
    (scripts_of c.in_ok-scripts.scripts.items) is c.in_ok-plan.ensures.no_fault
    ∙ ap (λ (b : Board). Ok (b, (scripts_of c.in_ok-scripts.scripts.items)))
    (sym c.in_ok-plan.ensures.ok)

pub returns-clause-scripts : goal.returns-clause-scripts
returns-clause-scripts c =
    let same : length c.in_ok-plan.plan.agents ≡ c.in_ok-agent_count.field-0 =
    ap (λ b. length b.agents) c.in_ok-plan.ensures.ok ∙ length-map
    c.in_ok-board.board.agents.items string_bytes ∙ sym c.in_ok-agent_count.ensures.agents in
    rw same (scripts_of_agents c.in_ok-agent_count.field-0 c.in_ok-scripts.scripts.items
    c.in_ok-scripts.ensures.agents c.in_ok-scripts.ensures.distinct)
