-- The part of a ring that holds something.
use Rattle.std.specs.Prelude.{ℕ, List, ◌++◌, take, drop}

-- n places of a ring from place k on, around its end
abbrev pub window : {X : Type 0} → ℕ → ℕ → List X → List X
window k n xs = take n (drop k xs ++ take k xs)
