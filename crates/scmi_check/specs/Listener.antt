-- What a listener is given.
use Rattle.std.specs.Prelude.{◌≡◌, ◌++◌, List, Option, Some, None, ⊤}

-- what a listener was given grows by these, if it is known
abbrev pub Grows : {T : Type 0} → Option (List T) → Option (List T) → List T → Type 0
Grows None new more = ⊤
Grows (Some all) None more = ⊥
Grows (Some all) (Some grown) more = grown ≡ all ++ more
