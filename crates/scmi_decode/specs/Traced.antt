-- Lines of Linux's ftrace, and the messages that they report.
use Rattle.std.specs.Prelude.{ℕ, ◌^◌, ◌&&◌, ◌||◌, nat_lt, Bool, false, if◌then◌else◌, List, [], ◌∷◌, ◌++◌, length, Option, Some, None, is_some}
use Rattle.std.specs.List.{slice_split}
use Rattle.scmi_codec.specs.Header.{HeaderFields}
use Rattle.scmi_codec.specs.Word.{word_at}
use Rattle.scmi_codec.specs.declared.payload.TheConstants.{PAYLOAD_WORDS}
use Rattle.scmi_decode.specs.Dump.{is_gap}
use Rattle.scmi_decode.specs.Event.{behind_name, digits_number, event_header, event_payload, kind_of, value_of}
use Rattle.scmi_decode.specs.MessageLine.{behind_event}
use Rattle.scmi_decode.specs.Row.{ends_in_colon}
use Rattle.scmi_decode.specs.declared.event.EventKind.{EventKind}
use Rattle.scmi_decode.specs.declared.traced.Traced.{Traced}
use Rattle.scmi_decode.specs.declared.traced.Traced.TheVariants.{Message, Unreadable, Other, Nothing}
use Rattle.scmi_decode.specs.declared.message_words.TheConstants.{EVENT_START, INSTANCE, KIND}

-- the instance of SCMI that an event is of: a decimal number, 0 without the field
abbrev pub instance_of : Option (List ℕ) → Option ℕ
instance_of None = Some 0
instance_of (Some digits) = digits_number 10 (2 ^ 32) digits

-- these payload words, and those of bytes behind them, the lowest byte first; none if the last of
-- them is not whole, or there are too many
abbrev pub words_behind : (words bytes : List ℕ) → Option (List ℕ)
words_behind words [] = Some words
words_behind words (a ∷ b ∷ c ∷ d ∷ bytes) =
    if nat_lt (length words) PAYLOAD_WORDS
    then words_behind (words ++ word_at 0 (a ∷ b ∷ c ∷ d ∷ []) ∷ []) bytes else None
words_behind words _ = None

-- the payload words of an event's bytes
abbrev pub payload_of_bytes : Option (List ℕ) → Option (List ℕ)
payload_of_bytes None = None
payload_of_bytes (Some bytes) = words_behind [] bytes

-- the message of an event, if each part of it is there
abbrev pub traced_with : EventKind → (instance : Option ℕ) → Option HeaderFields
    → (words : Option (List ℕ)) → Traced
traced_with k (Some instance) (Some header) (Some words) =
    Message instance k (record { header = header; payload = record { items = words } })
traced_with k _ _ _ = Unreadable

-- the same, if it is known what the event is of: `id=` has its instance
abbrev pub event_traced_of : Option EventKind → List (List ℕ) → Traced
event_traced_of None items = Unreadable
event_traced_of (Some k) items =
    traced_with k (instance_of (value_of INSTANCE.now items)) (event_header k items)
    (payload_of_bytes (event_payload k items))

-- the message of an event, of the items after its name
unfoldable pub event_traced : List (List ℕ) → Traced
event_traced items = event_traced_of (kind_of (value_of KIND.now items)) items

-- whether an item is the name of an event of SCMI
abbrev pub is_event_name : List ℕ → Bool
is_event_name item = is_some (behind_name EVENT_START.now item) && ends_in_colon item

-- whether one of the items is
abbrev pub names_event : List (List ℕ) → Bool
names_event [] = false
names_event (item ∷ items) = is_event_name item || names_event items

-- what items are that hold no event `scmi_msg_dump`
abbrev pub other_traced : List (List ℕ) → Traced
other_traced items = if names_event items then Other else Nothing

-- what the items of a line are: the message that the event `scmi_msg_dump` reports, or else whether
-- another event is named
abbrev pub items_traced : List (List ℕ) → Traced
items_traced items =
    elim (behind_event items) [ Some behind ↦ event_traced behind | None ↦ other_traced items ]

-- what a line is, as one of Linux's ftrace
abbrev pub traced_in : List ℕ → Traced
traced_in line = items_traced (slice_split is_gap line)
