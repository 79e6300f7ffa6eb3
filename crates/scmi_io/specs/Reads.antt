-- What contracts see of the reads of an input.
use Rattle.std.specs.Prelude.{◌≡◌, ◌↔◌, ℕ, List, Option, Result, Ok, Err, IfErr, MatchResult, ◌⊎◌, IsErr}
use Rattle.std.specs.IoError.{error_kind}
use Rattle.std.specs.declared.io.Error.{Error}
use Rattle.std.specs.declared.io.ErrorKind.TheVariants as kind
use Rattle.scmi_io.specs.declared.input_error.InputError.{InputError}
use Rattle.scmi_io.specs.declared.input_error.InputError.TheVariants.{Read}
use Rattle.scmi_io.specs.declared.read_error.ReadError.{ReadError}
use Rattle.scmi_io.specs.declared.read_error.ReadError.TheVariants.{Interrupted, Failed}

-- the bytes that are left to read, where they are known; how often the reader was read; and how
-- often from the first read on that failed
pub record ReadsView : Type 0 where
  pub left : Option (List ℕ)
  pub reads : ℕ
  pub since_failure : ℕ

-- the bytes that a source has left, where they are known; how often it was read; and what it gave
-- last
pub record SourceView : Type 0 where
  pub left : Option (List ℕ)
  pub reads : ℕ
  pub last : Result ℕ Error

-- what contracts see of the reads of a reader, and what it gave last
pub record CountedView : Type 0 where
  pub left : Option (List ℕ)
  pub reads : ℕ
  pub since_failure : ℕ
  pub last : Result ℕ Error

-- of all errors of a reader, those of the kind `Interrupted` are interruptions, and all others
-- failures
abbrev pub IsReason : Error → ReadError → Type 0
IsReason error reason = (reason ≡ Interrupted) ↔ (error_kind error ≡ kind.Interrupted)

-- what is reported of a read: as many bytes as the reader gave, or for its error the reason
abbrev pub Reports : Result ℕ Error → Result ℕ ReadError → Type 0
Reports (Ok count) given = given ≡ Ok count
Reports (Err error) given = IsErr given × IfErr given (λ reason. IsReason error reason)

-- how many reads that failed a read is: one that is interrupted did not fail
abbrev pub failures : {T : Type 0} → Result T ReadError → ℕ
failures (Ok x) = 0
failures (Err Interrupted) = 0
failures (Err Failed) = 1

-- a read that fails is the last, and the error is then this one
abbrev pub StopsWith : {T E : Type 0} → E → Result T E → ℕ → ℕ → Type 0
StopsWith failed r old new = old ≡ 0
    → MatchResult r (λ _. new ≡ 0) (λ e. (new ≡ 0) ⊎ ((new ≡ 1) × (e ≡ failed)))

-- a read that fails is the last, and the error is then `Read`
abbrev pub StopsAtFailure : {T : Type 0} → Result T InputError → ℕ → ℕ → Type 0
StopsAtFailure r old new = StopsWith Read r old new
