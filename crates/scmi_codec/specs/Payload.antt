-- The payload of a response.
use Rattle.std.specs.Prelude.{ℕ, ◌==◌, Bool, false, if◌then◌else◌, List, [], ◌∷◌, Option, None}

-- a response's payload begins with status 0
abbrev pub begins_with_success : List ℕ → Bool
begins_with_success [] = false
begins_with_success (status ∷ words) = status == 0

-- what a command with this response did: nothing, unless it succeeded
abbrev pub if_success : {A : Type 0} → List ℕ → Option A → Option A
if_success reply o = if begins_with_success reply then o else None
