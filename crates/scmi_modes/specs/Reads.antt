-- What a run does once a read fails.
use Rattle.std.specs.Prelude.{ℕ, Result}
use Rattle.scmi_io.specs.Reads.{StopsWith}
use Rattle.scmi_modes.specs.declared.run_error.RunError.{RunError}
use Rattle.scmi_modes.specs.declared.run_error.RunError.TheVariants.{Read}

-- a read that fails is the last, and the error is then `Read`
abbrev pub StopsAtFailure : {T : Type 0} → Result T RunError → ℕ → ℕ → Type 0
StopsAtFailure r old new = StopsWith Read r old new
