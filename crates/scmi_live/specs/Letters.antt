-- Words in letters of either case.
use Rattle.std.specs.Prelude.{ℕ, Bool, List, map}
use Rattle.std.specs.Str.{bytes_eq}
use Rattle.std.specs.Char.{to_ascii_lowercase}

-- whether an item is this word, in letters of either case
abbrev pub is_word : List ℕ → List ℕ → Bool
is_word item word = bytes_eq (map to_ascii_lowercase item) (map to_ascii_lowercase word)
