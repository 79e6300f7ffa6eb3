-- Lines of Linux's ftrace that show no message.
use Rattle.std.specs.Prelude.{ℕ, ◌==◌, ◌&&◌, ◌||◌, nat_eq, Bool, false, if◌then◌else◌, List, [], ◌∷◌, length, Option, Some, None}
use Rattle.std.specs.Char.{is_ascii_digit}
use Rattle.std.specs.List.{starts_with}
use Rattle.std.specs.Str.{bytes_eq}
use Rattle.scmi_board.specs.Items.{◌>>=◌}
use Rattle.scmi_board.specs.Number.{number_of}
use Rattle.scmi_decode.specs.Event.{behind_name}
use Rattle.scmi_check.specs.declared.note.Lost.{Lost}
use Rattle.scmi_check.specs.declared.note.Lost.TheVariants.{Events, Unknown}
use Rattle.scmi_check.specs.declared.trace_line.TheConstants.{CLOSING, COLON, EVENTS, LOST, OPENING, POINT, PROCESSORS}

-- this many events, if it is a number
abbrev pub events_of : Option ℕ → Option Lost
events_of None = None
events_of (Some events) = Some (Events events)

-- how many events are lost, by the item before the last one
abbrev pub lost_number : (first : List ℕ) → List (List ℕ) → Option Lost
lost_number first [] = None
lost_number first (second ∷ items) = if bytes_eq second EVENTS.now
    then events_of (number_of 64 first) else None

-- how many events are lost, by the items after the word
abbrev pub lost_behind : List (List ℕ) → Option Lost
lost_behind [] = None
lost_behind (first ∷ items) = if bytes_eq first EVENTS.now then Some Unknown
    else lost_number first items

-- how many events are lost, if items report that: [LOST 12 EVENTS], or [LOST EVENTS]
abbrev pub lost_in : List (List ℕ) → Option Lost
lost_in [] = None
lost_in (item ∷ items) = if bytes_eq item LOST.now then lost_behind items else lost_in items

-- what follows the digits that a text begins with
abbrev pub behind_all_digits : List ℕ → List ℕ
behind_all_digits [] = []
behind_all_digits (byte ∷ rest) = if is_ascii_digit byte then behind_all_digits rest
    else byte ∷ rest

-- the same, if there is one
abbrev pub behind_digits : List ℕ → Option (List ℕ)
behind_digits [] = None
behind_digits (byte ∷ rest) = if is_ascii_digit byte then Some (behind_all_digits rest) else None

-- nothing follows
abbrev pub is_all : Option (List ℕ) → Bool
is_all None = false
is_all (Some rest) = length rest == 0

-- what follows the number of a processor, if an item begins with it
unfoldable pub cpu_left : List ℕ → Option (List ℕ)
cpu_left item = do
  digits ← behind_name OPENING.now item
  rest ← behind_digits digits
  behind_name CLOSING.now rest

-- an item is the number of a processor, such as [003]
abbrev pub is_cpu : List ℕ → Bool
is_cpu item = is_all (cpu_left item)

-- what follows a time, if an item begins with it
unfoldable pub stamp_left : List ℕ → Option (List ℕ)
stamp_left item = do
  seconds ← behind_digits item
  fraction ← behind_name POINT.now seconds
  rest ← behind_digits fraction
  behind_name COLON.now rest

-- an item is a time, such as 12.000100:
abbrev pub is_stamp : List ℕ → Bool
is_stamp item = is_all (stamp_left item)

-- one of the items is the number of a processor
abbrev pub has_cpu : List (List ℕ) → Bool
has_cpu [] = false
has_cpu (item ∷ items) = is_cpu item || has_cpu items

-- one of the items is a time
abbrev pub has_stamp : List (List ℕ) → Bool
has_stamp [] = false
has_stamp (item ∷ items) = is_stamp item || has_stamp items

-- items are the line that trace-cmd prints first
abbrev pub is_heading : List (List ℕ) → Bool
is_heading (item ∷ []) = starts_with nat_eq item PROCESSORS.now
is_heading _ = false

-- items are a line of a trace: they have a processor and a time, or are a heading
abbrev pub is_trace_line : List (List ℕ) → Bool
is_trace_line items = is_heading items || (has_cpu items && has_stamp items)
