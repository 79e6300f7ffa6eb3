-- The items of a line, from its begin on, and what comes before a column of text.
use Rattle.std.specs.Prelude.{ℕ, ◌+◌, ◌-◌, ◌==◌, ◌&&◌, ◌||◌, not, Bool, false, if◌then◌else◌, List, [], ◌∷◌, length, take, drop, slice_index}
use Rattle.scmi_decode.specs.Dump.{is_gap}

-- how many bytes of the gap at the begin
abbrev pub gap_length : List ℕ → ℕ
gap_length [] = 0
gap_length (b ∷ bs) = if is_gap b then 1 + gap_length bs else 0

-- how many bytes come before the first gap
abbrev pub item_length : List ℕ → ℕ
item_length [] = 0
item_length (b ∷ bs) = if is_gap b then 0 else 1 + item_length bs

-- what follows the gap at the beginning
abbrev pub after_gap : List ℕ → List ℕ
after_gap line = drop (gap_length line) line

-- the first item of a line
abbrev pub first_item : List ℕ → List ℕ
first_item line = take (item_length (after_gap line)) (after_gap line)

-- what follows the first item of a line
abbrev pub after_item : List ℕ → List ℕ
after_item line = drop (item_length (after_gap line)) (after_gap line)

-- whether a line has one item
abbrev pub has_one_item : List ℕ → Bool
has_one_item line = length (after_gap (after_item line)) == 0

-- whether a text begins with a space
abbrev pub begins_with_space : List ℕ → Bool
begins_with_space [] = false
begins_with_space (b ∷ bs) = b == 32

-- how many bytes come before two spaces in a row
abbrev pub column_length : List ℕ → ℕ
column_length [] = 0
column_length (b ∷ bs) = if (b == 32) && begins_with_space bs then 0 else 1 + column_length bs

-- how many bytes come before `|` or `>`
abbrev pub bar_length : List ℕ → ℕ
bar_length [] = 0
bar_length (b ∷ bs) = if (b == 124) || (b == 62) then 0 else 1 + bar_length bs

-- how many bytes come before `|`
abbrev pub pipe_length : List ℕ → ℕ
pipe_length [] = 0
pipe_length (b ∷ bs) = if b == 124 then 0 else 1 + pipe_length bs

-- what follows the last colon, or else what is best so far
abbrev pub behind_colon : (best text : List ℕ) → List ℕ
behind_colon best [] = best
behind_colon best (b ∷ bs) = behind_colon (if b == 58 then bs else best) bs

-- an item without its last byte
abbrev pub without_last : List ℕ → List ℕ
without_last item = take (length item - 1) item

-- whether a text ends in a carriage return
abbrev pub ends_in_return : List ℕ → Bool
ends_in_return text = not (length text == 0) && (slice_index text (length text - 1) == 13)

-- a text without the carriage return at its end
abbrev pub without_return : List ℕ → List ℕ
without_return text = if ends_in_return text then without_last text else text

-- data without `>` before them
abbrev pub after_cursor : List ℕ → List ℕ
after_cursor [] = []
after_cursor (b ∷ bs) = if b == 62 then bs else b ∷ bs
