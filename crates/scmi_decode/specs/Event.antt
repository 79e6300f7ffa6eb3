-- The message that a line of Linux's event `scmi_msg_dump` reports, by its fields.
use Rattle.std.specs.Prelude.{ℕ, ◌-◌, ◌%◌, ◌^◌, ◌==◌, nat_eq, nat_lt, Bool, true, false, if◌then◌else◌, List, [], ◌∷◌, ◌++◌, drop, length, Option, Some, None}
use Rattle.std.specs.Int.{to_le_bytes, w32}
use Rattle.std.specs.List.{starts_with}
use Rattle.std.specs.Str.{bytes_eq}
use Rattle.scmi_codec.specs.Header.{HeaderFields, header_word}
use Rattle.scmi_decode.specs.Dump.{both_bytes, bytes_of}
use Rattle.scmi_decode.specs.MessageArea.{message_area}
use Rattle.scmi_decode.specs.Row.{number_from}
use Rattle.scmi_decode.specs.declared.event.EventKind.{EventKind}
use Rattle.scmi_decode.specs.declared.event.EventKind.TheVariants.{Command, Response, Delayed, Notification}
use Rattle.scmi_decode.specs.declared.message_words.TheConstants.{COMMAND, RESPONSE, DELAYED, NOTIFICATION, KIND, PROTOCOL, MESSAGE_ID, TOKEN, STATUS, PAYLOAD}

-- what follows a name at the beginning of an item, if the item begins with it
abbrev pub behind_name : (name item : List ℕ) → Option (List ℕ)
behind_name name item = if starts_with nat_eq item name
    then Some (drop (length name) item) else None

-- the first of two that is there
abbrev pub first_there : Option (List ℕ) → Option (List ℕ) → Option (List ℕ)
first_there (Some value) other = Some value
first_there None other = other

-- the value of a field, which follows its name in the first item that begins with it
abbrev pub value_of : (name : List ℕ) → List (List ℕ) → Option (List ℕ)
value_of name [] = None
value_of name (item ∷ items) = first_there (behind_name name item) (value_of name items)

-- a number below a limit
abbrev pub below : ℕ → Option ℕ → Option ℕ
below limit None = None
below limit (Some n) = if nat_lt n limit then Some n else None

-- the number below a limit that digits of a base are, one digit at least
abbrev pub digits_number : (base limit : ℕ) → List ℕ → Option ℕ
digits_number base limit [] = None
digits_number base limit (d ∷ ds) = below limit (number_from base 0 (d ∷ ds))

-- the number below a limit of a field in hexadecimal digits
abbrev pub field_number : (limit : ℕ) → Option (List ℕ) → Option ℕ
field_number limit None = None
field_number limit (Some digits) = digits_number 16 limit digits

-- what an event is of, by its field `t=`
abbrev pub kind_of : Option (List ℕ) → Option EventKind
kind_of None = None
kind_of (Some t) =
    if bytes_eq t COMMAND.now then Some Command else if bytes_eq t RESPONSE.now then Some Response
    else if bytes_eq t DELAYED.now then Some Delayed else if bytes_eq t NOTIFICATION.now
    then Some Notification else None

-- the message type of an event's message
abbrev pub message_type : EventKind → ℕ
message_type Command = 0
message_type Response = 0
message_type Delayed = 2
message_type Notification = 3

-- whether the payload of an event's message begins with the status
abbrev pub has_status : EventKind → Bool
has_status Command = false
has_status Response = true
has_status Delayed = true
has_status Notification = false

-- the header of an event's message, of what it is of, its protocol, its message id and its token
abbrev pub header_with : EventKind → (protocol id token : Option ℕ) → Option HeaderFields
header_with k (Some protocol) (Some id) (Some token) =
    Some (record {
      reserved = 0;
      token = token;
      protocol = protocol;
      kind = message_type k;
      id = id;
    })
header_with k _ _ _ = None

-- the header of an event's message: `pt=` has its protocol, `msg_id=` its message id and `seq=` its
-- token
unfoldable pub event_header : EventKind → List (List ℕ) → Option HeaderFields
event_header k items =
    header_with k (field_number 256 (value_of PROTOCOL.now items))
    (field_number 256 (value_of MESSAGE_ID.now items))
    (field_number 1024 (value_of TOKEN.now items))

-- the word of a negative number
abbrev pub negative_word : Option ℕ → Option ℕ
negative_word None = None
negative_word (Some n) = Some ((2 ^ 32 - n) % 2 ^ 32)

-- whether a text begins with a minus sign
abbrev pub begins_with_minus : List ℕ → Bool
begins_with_minus [] = false
begins_with_minus (b ∷ bs) = b == 45

-- the word of a number with or without a sign, in decimal digits
unfoldable pub signed_word : List ℕ → Option ℕ
signed_word digits =
    if begins_with_minus digits then negative_word (digits_number 10 0x80000001 (drop 1 digits))
    else digits_number 10 0x80000000 digits

-- the word of the field `s=`
abbrev pub status_word : Option (List ℕ) → Option ℕ
status_word None = None
status_word (Some digits) = signed_word digits

-- the bytes of the field `pyld=`
abbrev pub payload_bytes : Option (List ℕ) → Option (List ℕ)
payload_bytes None = None
payload_bytes (Some digits) = bytes_of digits

-- the bytes of a status
abbrev pub status_bytes : Option ℕ → Option (List ℕ)
status_bytes None = None
status_bytes (Some word) = Some (to_le_bytes w32 word)

-- the payload of an event's message: `s=` has its status, if it has one, and `pyld=` the bytes
-- after it
unfoldable pub event_payload : EventKind → List (List ℕ) → Option (List ℕ)
event_payload k items =
    if has_status k then both_bytes (status_bytes (status_word (value_of STATUS.now items)))
    (payload_bytes (value_of PAYLOAD.now items))
    else payload_bytes (value_of PAYLOAD.now items)

-- the status word of the channel that holds an event's message: free with a response, and busy with
-- any other
abbrev pub channel_word : EventKind → ℕ
channel_word Command = 0
channel_word Response = 1
channel_word Delayed = 0
channel_word Notification = 0

-- the area that holds a message of this header and payload
abbrev pub event_area_with : EventKind → Option HeaderFields → Option (List ℕ) → Option (List ℕ)
event_area_with k (Some h) (Some payload) =
    message_area (channel_word k) (to_le_bytes w32 (header_word h) ++ payload)
event_area_with k _ _ = None

-- the same, if it is known what the event is of
abbrev pub event_area_of : Option EventKind → List (List ℕ) → Option (List ℕ)
event_area_of None items = None
event_area_of (Some k) items = event_area_with k (event_header k items) (event_payload k items)

-- the area that holds an event's message, of the items after the event's name
unfoldable pub event_area : List (List ℕ) → Option (List ℕ)
event_area items = event_area_of (kind_of (value_of KIND.now items)) items
