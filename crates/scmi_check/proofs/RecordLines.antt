-- A record's lines, read one after another.
use Rattle.std.proofs.Common.{◌≡◌, ℕ, Result, Ok, sym, ap, subst}
use Rattle.scmi_board.specs.declared.text_error.TextError.{TextError}
use Rattle.scmi_board.specs.declared.text_error.TextError.TheVariants as errors
use Rattle.scmi_text.specs.TextLines.{FailsScript, GivesScript}
use Rattle.scmi_check.specs.RecordText.{RecordView, Shows, all_finished, finished}

-- a line that is not of the record is not one of its entries
pub fails_all : (error : TextError) (total : Result Shows ℕ) → FailsScript error total
    → FailsScript error (all_finished total)
fails_all (errors.Board line) total fails = fails
fails_all (errors.Script line) total fails = ap all_finished fails
fails_all errors.Memory total fails = tt

-- the record once no line is left
pub gives_all : {X : Type 0} (view : X → RecordView) (result : Result X TextError) (shows : Shows)
    (total : Result Shows ℕ) → total ≡ Ok shows
    → GivesScript view result (Ok (finished shows)) → GivesScript view result (all_finished total)
gives_all view result shows total is gives =
    subst (λ there. GivesScript view result (all_finished there)) (sym is) gives
