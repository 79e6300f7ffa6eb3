use Rattle.std.proofs.Common.{◌≡◌, IfSome, ℕ, List, length, Option, Some, None, subst}
use Rattle.scmi_check.specs.Check.{IsChecked}
use Rattle.scmi_check.specs.declared.options.CheckOptions.{CheckOptions}
use Rattle.scmi_live.specs.Hertz.{in_hertz}
use Rattle.scmi_live.specs.Numbered.{IsLineInNumbers}
use Rattle.scmi_plan.specs.Board.{Board}
use Rattle.scmi_plan.specs.RawPlan.{asked_board}
use Rattle.scmi.specs.Record.{AreNamesOf, IsNamedRecord}
use Rattle.scmi.specs.declared.board_names.BoardNames.{BoardNames}
use Rattle.scmi.proofs.record.run_record.Goals as goal

module _ (options : CheckOptions) (known : Option (List ℕ)) (status : ℕ) where
  abbrev Checks : Board → ℕ → List ℕ → Type 0
  Checks board agents text =
      IsChecked (IsLineInNumbers board agents) options (Some text) known status

  abbrev IsNamed : List ℕ → Type 0
  IsNamed text = IsNamedRecord options text known status

  -- a record that was checked by the names of a board was checked by that board
  named : (text : List ℕ) (names : BoardNames) → AreNamesOf text names
      → Checks (asked_board names.board) names.agents text → IsNamed text
  named text names are checked = record {
    said = are.said;
    of_text = are.of_text;
    is_checked =
        subst (λ board. Checks board (length are.said.0.agents) text) are.board_is
        (subst (λ agents. Checks (asked_board names.board) agents text) are.agents_are checked);
  }

  in_its_text : (given : Option (List ℕ)) (text : List ℕ)
      → IfSome given (λ it. text ≡ in_hertz it) → IsNamed text
      → IfSome given (λ it. IsNamed (in_hertz it))
  in_its_text None text is checked = tt
  in_its_text (Some it) text is checked = subst IsNamed is checked

pub returns : goal.returns
returns g c =
    let given = c.in-Ok.given in
    let board = asked_board given.names.board in
    let known = g.R.Read.remaining c.args.shown.now in
    let status = c.run_check.result in
    let options = c.args.options in
    record {
      checked = λ has.
          in_its_text options known status (g.B.Read.remaining c.args.board.now)
          given.text.items c.in-Ok.ensures.text
          (named options known status given.text.items given.names c.in-Ok.ensures.names
          (subst (λ text. Checks options known status board given.names.agents text)
          c.as_slice.ensures.value (c.run_check.ensures.checked has)));
    }
