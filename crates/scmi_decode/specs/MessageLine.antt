-- Lines that report a message: of Linux's event `scmi_msg_dump`, or of a script.
use Rattle.std.specs.Prelude.{ℕ, ◌^◌, ◌&&◌, ◌||◌, not, Bool, true, false, if◌then◌else◌, List, [], ◌∷◌, Option, Some, None, is_some}
use Rattle.std.specs.List.{slice_split}
use Rattle.std.specs.Str.{bytes_eq}
use Rattle.scmi_decode.specs.Dump.{first_full, is_gap, items_bytes}
use Rattle.scmi_decode.specs.GroupOrder.{group_of, order_of}
use Rattle.scmi_decode.specs.Event.{digits_number, event_area}
use Rattle.scmi_decode.specs.MessageArea.{message_area}
use Rattle.scmi_decode.specs.WideRow.{is_wide_row}
use Rattle.scmi_decode.specs.declared.form.Form.TheVariants.{Plain}
use Rattle.scmi_decode.specs.declared.layout.Layout.{Layout}
use Rattle.scmi_decode.specs.declared.layout.Layout.TheVariants.{Whole}
use Rattle.scmi_decode.specs.declared.no_bytes.NoBytes.{NoBytes}
use Rattle.scmi_decode.specs.declared.no_bytes.NoBytes.TheVariants as lack
use Rattle.scmi_decode.specs.declared.order.Order.{Order}
use Rattle.scmi_decode.specs.declared.order.Order.TheVariants.{Straight, Turned, Unclear}
use Rattle.scmi_decode.specs.declared.message_words.TheConstants.{EVENT, REPLY, GOT, P2A}

-- what follows the name of the event, if it is among the items
abbrev pub behind_event : List (List ℕ) → Option (List (List ℕ))
behind_event [] = None
behind_event (item ∷ items) = if bytes_eq item EVENT.now then Some items else behind_event items

-- whether an item is the number of an agent
abbrev pub is_agent : List ℕ → Bool
is_agent item = is_some (digits_number 10 (2 ^ 32) item)

-- whether an item reports that an agent has got the message after it
abbrev pub is_got : List ℕ → Bool
is_got item = bytes_eq item REPLY.now || bytes_eq item GOT.now || bytes_eq item P2A.now

-- what follows an agent and the word for a message that it has got
abbrev pub behind_got : List (List ℕ) → Option (List (List ℕ))
behind_got [] = None
behind_got (agent ∷ []) = None
behind_got (agent ∷ got ∷ items) = if is_agent agent && is_got got then Some items else None

-- the area of a message that its agent has got, so that the channel is free
abbrev pub got_area : Option (List ℕ) → Option (List ℕ)
got_area None = None
got_area (Some message) = message_area 1 message

-- the order of the digits of a line that has several items
abbrev pub own_order : List (List ℕ) → Order
own_order items = order_of Plain (group_of (first_full items)) 0 false

-- bytes that are the same in either order
abbrev pub if_alike : (straight turned : Option (List ℕ)) → Option (List ℕ)
if_alike (Some straight) (Some turned) = if bytes_eq straight turned then Some straight else None
if_alike _ _ = None

-- the bytes that items have in an order; in an unclear one only if either gives the same
abbrev pub ordered_bytes : Order → (straight turned : Option (List ℕ)) → Option (List ℕ)
ordered_bytes Straight straight turned = straight
ordered_bytes Turned straight turned = turned
ordered_bytes Unclear straight turned = if_alike straight turned

-- the bytes of a line that reports no message; none if it may be a row that is too wide
abbrev pub own_bytes : List (List ℕ) → Option (List ℕ)
own_bytes items =
    if is_wide_row items then None
    else ordered_bytes (own_order items) (items_bytes false items) (items_bytes true items)

-- the bytes of a line without an event: the area of the message that an agent has got, or its own
abbrev pub got_or_own : Option (List (List ℕ)) → List (List ℕ) → Option (List ℕ)
got_or_own (Some behind) items = got_area (items_bytes true behind)
got_or_own None items = own_bytes items

-- the bytes of a line: the area of the message that an event reports, or else as above
abbrev pub event_or_own : Option (List (List ℕ)) → List (List ℕ) → Option (List ℕ)
event_or_own (Some behind) items = event_area behind
event_or_own None items = got_or_own (behind_got items) items

-- the bytes that the items of a line encode alone, if it is no row of a dump
abbrev pub items_alone : List (List ℕ) → Option (List ℕ)
items_alone items = event_or_own (behind_event items) items

-- the same of a line
abbrev pub alone_bytes : List ℕ → Option (List ℕ)
alone_bytes line = items_alone (slice_split is_gap line)

-- whether a line reports a message
abbrev pub is_message : List (List ℕ) → Bool
is_message items = is_some (behind_event items) || is_some (behind_got items)

-- which bytes of a line that is a dump of its own are areas: a message that is reported is one
-- area, whatever the layout of dumps
abbrev pub items_layout : Layout → List (List ℕ) → Layout
items_layout l items = if is_message items then Whole else l

-- why items have no bytes, if they have none: they may be a row that is too wide, they are no
-- digits, or the order of these is unclear
abbrev pub items_lack : List (List ℕ) → NoBytes
items_lack items =
    if not (is_message items) && is_wide_row items then lack.WideRow
    else if is_some (items_bytes false items) then lack.Order else lack.Digits

-- the same of a line
abbrev pub alone_lack : List ℕ → NoBytes
alone_lack line = items_lack (slice_split is_gap line)
