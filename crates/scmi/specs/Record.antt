-- What a record is checked as whose commands may have names.
use Rattle.std.specs.Prelude.{◌≡◌, ℕ, List, length, Option, Some}
use Rattle.scmi_board.specs.BoardLines.{Described}
use Rattle.scmi_board.specs.ValidBoard.{IsBoardText}
use Rattle.scmi_check.specs.Check.{IsChecked}
use Rattle.scmi_check.specs.declared.options.CheckOptions.{CheckOptions}
use Rattle.scmi_live.specs.Numbered.{IsLineInNumbers}
use Rattle.scmi_plan.specs.RawPlan.{asked_board}
use Rattle.scmi.specs.declared.board_names.BoardNames.{BoardNames}

-- names are those of the board that a text is
pub record AreNamesOf (text : List ℕ) (names : BoardNames) : Type 0 where
  pub said : Described
  pub of_text : IsBoardText text said
  pub board_is : asked_board names.board ≡ said.0
  pub agents_are : names.agents ≡ length said.0.agents

-- a record was checked with this status, each of its lines by the names of the board that a text is
pub record IsNamedRecord (options : CheckOptions) (text : List ℕ) (known : Option (List ℕ))
    (status : ℕ) : Type 0 where
  pub said : Described
  pub of_text : IsBoardText text said
  pub is_checked : IsChecked (IsLineInNumbers said.0 (length said.0.agents)) options
      (Some text) known status
