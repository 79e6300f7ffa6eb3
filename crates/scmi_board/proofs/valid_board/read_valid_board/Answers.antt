use Rattle.std.proofs.Common.{◌≡◌, Ok, sym, ap, ◌∙◌, subst}
use Rattle.std.proofs.lemmas.Result.{err_from_is_err_and}
use Rattle.std.specs.List.{All}
use Rattle.scmi_plan.specs.Board.{Board}
use Rattle.scmi_board.specs.BoardLines.{IsLineOf, described, described_left, with_lines}
use Rattle.scmi_board.specs.Lines.{lines_left, whole}
use Rattle.scmi_board.proofs.BoardLines.{lines-said}
use Rattle.scmi_board.proofs.ValidBoards.{has_line_after, nothing_after, rule_fails}
use Rattle.scmi_board.proofs.valid_board.read_valid_board.Goals as goal

pub returns-in_err-plan-clause-fault : goal.returns-in_err-plan-clause-fault
returns-in_err-plan-clause-fault c =
    let text = c.args.text.now in
    let said = described c.in_ok-said.said in
    let behind = lines_left c.read_board_with_lines.new.lines in
    let found : described_left (whole text) ≡ Ok (said, behind) =
    ap described_left (sym c.of_text-lines.ensures) ∙ c.in_ok-said.ensures.board in
    let p = err_from_is_err_and c.from_residual-in_err-plan.result
    c.from_residual-in_err-plan.ensures.1 in
    rw (p.1, p.2) (rule_fails text said (nothing_after text said behind found
    c.in_ok-finish.ensures.ok) c.in_err-plan.field-0.0 c.in_err-plan.ensures.fault)

pub returns-in_err-finish-clause-fault : goal.returns-in_err-finish-clause-fault
returns-in_err-finish-clause-fault c =
    let found : described_left (whole c.args.text.now)
    ≡ Ok (described c.in_ok-said.said, lines_left c.read_board_with_lines.new.lines) =
    ap described_left (sym c.of_text-lines.ensures) ∙ c.in_ok-said.ensures.board in
    let p = err_from_is_err_and c.from_residual-in_err-finish.result
    c.from_residual-in_err-finish.ensures.1 in
    rw (p.1, p.2) (has_line_after c.args.text.now (described c.in_ok-said.said)
    (lines_left c.read_board_with_lines.new.lines) found c.in_err-finish.field-0.0
    c.in_err-finish.ensures.err)

pub apply_lines-requires : goal.apply_lines-requires
apply_lines-requires c = record {
  lines = subst (λ (board : Board). All (IsLineOf board) c.deref.result.now)
      (sym c.in_ok-plan.ensures.ok)
      (subst (All (IsLineOf (described c.in_ok-said.said).0)) (sym c.deref.ensures.value)
      (lines-said c.of_text-lines.result (described c.in_ok-said.said)
      (lines_left c.read_board_with_lines.new.lines) c.in_ok-said.ensures.board));
}

pub returns-clause-board : goal.returns-clause-board
returns-clause-board c =
    let found = ap described_left (sym c.of_text-lines.ensures) ∙ c.in_ok-said.ensures.board in
    record {
      said_is = nothing_after c.args.text.now (described c.in_ok-said.said)
          (lines_left c.read_board_with_lines.new.lines) found c.in_ok-finish.ensures.ok;
      valid = c.in_ok-plan.ensures.no_fault;
    }

pub returns-clause-plan : goal.returns-clause-plan
returns-clause-plan c =
    c.apply_lines.ensures.lines ∙ ap (with_lines c.in_ok-plan.plan) c.deref.ensures.value
    ∙ ap (λ (b : Board). with_lines b (described c.in_ok-said.said).1) c.in_ok-plan.ensures.ok
