-- A record that was checked.
use Rattle.std.specs.Prelude.{ℕ, Bool, if◌then◌else◌, Option, None, Some}
use Rattle.scmi_check.specs.declared.checked.TheConstants.{DIFFERS, UNSURE}

-- the exit status if no entry that is judged differs
abbrev pub status_if_same : Option ℕ → ℕ
status_if_same None = 0
status_if_same (Some line) = UNSURE

-- the exit status, by whether an entry differs, and the line of the first that is not judged (own)
abbrev pub status_by : Bool → Option ℕ → ℕ
status_by differs unsure = if differs then DIFFERS else status_if_same unsure
