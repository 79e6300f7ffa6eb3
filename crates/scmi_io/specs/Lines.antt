-- The lines of an input.
use Rattle.std.specs.Prelude.{◌≡◌, ◌++◌, ℕ, ◌==◌, nat_lt, Bool, List, length}
use Rattle.std.specs.List.{before_first, after_first, position_or_len}

-- whether a byte ends a line
abbrev pub is_line_feed : ℕ → Bool
is_line_feed b = b == 10

-- the bytes before the first line feed
abbrev pub first_line : List ℕ → List ℕ
first_line input = before_first is_line_feed input

-- the bytes behind the first line feed
abbrev pub after_line : List ℕ → List ℕ
after_line input = after_first is_line_feed input

-- whether a line feed is in an input
abbrev pub has_line_feed : List ℕ → Bool
has_line_feed input = nat_lt (position_or_len is_line_feed input) (length input)

-- bytes of the first line of an input were moved behind those of a line: what is to come of the
-- line is the first line of the rest
abbrev pub IsFurther : List ℕ → List ℕ → List ℕ → List ℕ → Type 0
IsFurther input line rest line' =
    (line ++ first_line input ≡ line' ++ first_line rest) × (after_line input ≡ after_line rest)
    × (has_line_feed input ≡ has_line_feed rest)
