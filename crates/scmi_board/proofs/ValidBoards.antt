-- The rule that the board of a text breaks.
use Rattle.std.proofs.Common.{◌≡◌, ◌≢◌, ◌∙◌, ℕ, List, None, Some, Ok, Err, ap}
use Rattle.scmi_plan.specs.PlanError.{first_fault}
use Rattle.scmi_plan.specs.declared.plan_error.PlanError.{PlanError}
use Rattle.scmi_plan.specs.declared.plan_error.PlanError.TheVariants as plan
use Rattle.scmi_board.specs.BoardLines.{Described, described_left}
use Rattle.scmi_board.specs.Lines.{Line, first_number_in, whole}
use Rattle.scmi_board.specs.declared.board_error.BoardError.TheVariants as fault
use Rattle.scmi_board.specs.declared.line_after.LineAfter.{LineAfter}
use Rattle.scmi_board.specs.ValidBoard.{BreaksRule, HasLineAfter, IsBoardFault, error_of_after, error_of_rule, said_alone, said_in, said_whole}

-- a text of a board is that board, if nothing follows it
pub nothing_after : (text : List ℕ) (said : Described) (behind : List Line) → described_left
    (whole text) ≡ Ok (said, behind) → first_number_in behind ≡ None → said_in text ≡ Ok said
nothing_after text said behind is none = ap said_whole is ∙ ap (said_alone said) none

-- a text of a board that a line follows
pub has_line_after : (text : List ℕ) (said : Described) (behind : List Line)
    → described_left (whole text) ≡ Ok (said, behind) → (after : LineAfter)
    → first_number_in behind ≡ Some after.number → IsBoardFault text (error_of_after after)
has_line_after text said behind is after first =
    record { said = said; behind = behind; said_is = is; first = first }

-- the line of a text that is no board is its number
pub line_fails : (text : List ℕ) (line : ℕ) → IsBoardFault text (fault.Line line)
    → said_in text ≡ Err line
line_fails text line is = ap said_whole is

pub after_fails : (text : List ℕ) (line : ℕ) → HasLineAfter text line → said_in text ≡ Err line
after_fails text line is = ap said_whole is.said_is ∙ ap (said_alone is.said) is.first

module _ (text : List ℕ) (said : Described) (is : said_in text ≡ Ok said) where
  breaks : (rule : PlanError) → first_fault said.0 ≡ Some rule → BreaksRule text rule
  breaks rule broken = record { said = said; said_is = is; broken = broken }

  -- a board that breaks a rule, or out of memory
  pub rule_fails : (e : PlanError) → (e ≢ plan.Memory → first_fault said.0 ≡ Some e)
      → IsBoardFault text (error_of_rule e)
  rule_fails plan.Memory first = tt
  rule_fails plan.Count first = breaks plan.Count (first (λ same. absurd (cc)))
  rule_fails plan.Name first = breaks plan.Name (first (λ same. absurd (cc)))
  rule_fails plan.Rates first = breaks plan.Rates (first (λ same. absurd (cc)))
  rule_fails plan.Device first = breaks plan.Device (first (λ same. absurd (cc)))
  rule_fails plan.Trusted first = breaks plan.Trusted (first (λ same. absurd (cc)))
