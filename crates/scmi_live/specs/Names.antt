-- What names mean.
use Rattle.std.specs.Prelude.{ℕ, ◌+◌, ◌^◌, nat_lt, if◌then◌else◌, List, [], ◌∷◌, Option, Some, None}
use Rattle.std.specs.Str.{bytes_eq}

-- the number of the first of these names that is this one, if the first of all has this number;
-- numbers have 32 bits
abbrev pub number_from : ℕ → List ℕ → List (List ℕ) → Option ℕ
number_from first text [] = None
number_from first text (name ∷ names) =
    if bytes_eq name text then Some first else if nat_lt (first + 1) (2 ^ 32)
    then number_from (first + 1) text names else None

-- an item that is a number is that number, even if it is also a name
abbrev pub or_named : Option ℕ → Option ℕ → Option ℕ
or_named (Some number) named = Some number
or_named None named = named
