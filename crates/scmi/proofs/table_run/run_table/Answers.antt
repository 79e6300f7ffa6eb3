use Rattle.scmi_board.specs.BoardLines.{described}
use Rattle.scmi.proofs.table_run.run_table.Goals as goal

-- the board that was read
pub returns-in-Ok-clause-board : goal.returns-in-Ok-clause-board
returns-in-Ok-clause-board g c = λ done. record {
  said = described c.in-Ok.said;
  of_text = c.in-Ok.ensures.board;
}
