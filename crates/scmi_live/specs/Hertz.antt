-- The texts of boards, whose rates may have units.
use Rattle.std.specs.Prelude.{ℕ, ◌==◌, Bool, if◌then◌else◌, List, [], ◌∷◌, ◌++◌, decimal, is_ok, map, Some, None}
use Rattle.std.specs.List.{join_with_byte, slice_split}
use Rattle.std.specs.Str.{bytes_eq}
use Rattle.scmi_io.specs.Lines.{is_line_feed}
use Rattle.scmi_board.specs.BoardLines.{described_left}
use Rattle.scmi_board.specs.Items.{items_of}
use Rattle.scmi_board.specs.declared.words.TheConstants.{CLOCK}
use Rattle.scmi_live.specs.Rates.{rate_in_unit}

-- a rate with a unit becomes its number of Hz; any other text stays
abbrev pub rate_in_hertz : List ℕ → List ℕ
rate_in_hertz rate = elim (rate_in_unit rate) [ None ↦ rate | Some hertz ↦ decimal hertz ]

-- whether a byte is a comma
abbrev pub is_comma : ℕ → Bool
is_comma byte = byte == 44

-- an item, with the rates between its commas in Hz
abbrev pub item_in_hertz : List ℕ → List ℕ
item_in_hertz item = join_with_byte 44 (map rate_in_hertz (slice_split is_comma item))

-- items, each behind a space
abbrev pub behind_spaces : List (List ℕ) → List ℕ
behind_spaces [] = []
behind_spaces (item ∷ items) = 32 ∷ (item ++ behind_spaces items)

-- the line of a clock, with its rates in Hz
abbrev pub clock_line : (word name state : List ℕ) → List (List ℕ) → List ℕ
clock_line word name state rates = word ++ behind_spaces (name ∷ state ∷ map item_in_hertz rates)

-- a line of these items, with its rates in Hz if it is of a clock
abbrev pub of_items : List ℕ → List (List ℕ) → List ℕ
of_items line (word ∷ name ∷ state ∷ rates) = if bytes_eq word CLOCK.now
    then clock_line word name state rates else line
of_items line items = line

-- a line, with its rates in Hz if it is of a clock
abbrev pub line_in_hertz : List ℕ → List ℕ
line_in_hertz line = elim (items_of line) [ None ↦ line | Some items ↦ of_items line items ]

-- the lines of a text, with their rates in Hz
abbrev pub lines_in_hertz : List ℕ → List ℕ
lines_in_hertz text = join_with_byte 10 (map line_in_hertz (slice_split is_line_feed text))

-- whether a text begins with a board as it is
abbrev pub is_board : List ℕ → Bool
is_board text = is_ok (described_left (record { rest = text; number = 1 }))

-- the text of a board in Hz: that of one as it is stays
abbrev pub in_hertz : List ℕ → List ℕ
in_hertz text = if is_board text then text else lines_in_hertz text
