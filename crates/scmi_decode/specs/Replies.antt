-- Replies, delayed responses and notifications: their forms and their fields.
use Rattle.std.specs.Prelude.{ℕ, ◌+◌, ◌*◌, ◌/◌, ◌%◌, ◌^◌, ◌==◌, ◌&&◌, nat_lt, Bool, true, false, if◌then◌else◌, List, [], ◌∷◌, length, slice_index, Option, Some, None, option_and_then, Result, Ok, Err}
use Rattle.std.specs.List.{list_any}
use Rattle.arrayvec.specs.ArrayVec.{ArrayVec}
use Rattle.scmi_codec.specs.Header.{HeaderFields}
use Rattle.scmi_codec.specs.Listing.{Said, listed_row, words_of}
use Rattle.scmi_codec.specs.Status.{status_of}
use Rattle.scmi_codec.specs.declared.message.Message.{Message}
use Rattle.scmi_codec.specs.declared.status.Status.{Status}
use Rattle.scmi_codec.specs.declared.status.Status.TheVariants.{Success, NotSupported, ProtocolError}
use Rattle.scmi_decode.specs.FieldParts.{fields_by, is_list}
use Rattle.scmi_decode.specs.declared.field.Field.{Field}
use Rattle.scmi_decode.specs.declared.field.Field.TheVariants as field

-- fields, as a vector of fixed room has them
abbrev pub FieldList : Type 0
FieldList = ArrayVec Field

-- the fields of a reply's words after its status by the row of its message: NOT_SUPPORTED if there
-- is none or it gives a list, PROTOCOL_ERROR for another number of words
abbrev pub given_fields : Option Said → List ℕ → Result FieldList Status
given_fields None words = Err NotSupported
given_fields (Some row) words =
    if list_any is_list row.gives then Err NotSupported
    else if length words == words_of row.gives
    then Ok (record { items = fields_by row.gives words })
    else Err ProtocolError

-- the fields of a successful reply after its status, by protocol and message id
abbrev pub reply_fields : ℕ → ℕ → List ℕ → Result FieldList Status
reply_fields protocol id words = given_fields (listed_row protocol id) words

-- a number, and this many ids of protocols, four to a word
abbrev pub has_protocols : List ℕ → Bool
has_protocols [] = false
has_protocols (count ∷ ids) = length ids == (count + 3) / 4

-- a flags word, and as many rates as it says, one at least
abbrev pub has_rates : List ℕ → Bool
has_rates [] = false
has_rates (flags ∷ rates) = nat_lt 0 (flags % 2 ^ 12) && (length rates == 2 * (flags % 2 ^ 12))

-- whether words are those of a row; those of a message that has no row are none
abbrev pub is_row : List ℕ → Result FieldList Status → Bool
is_row words (Ok fields) = true
is_row words (Err NotSupported) = length words == 0
is_row words (Err e) = false

-- whether words may follow the status of a successful reply, by protocol and message id
abbrev pub has_reply_form : ℕ → ℕ → List ℕ → Bool
has_reply_form protocol id words =
    if (protocol == 0x10) && (id == 6) then has_protocols words
    else if (protocol == 0x14) && (id == 4) then has_rates words
    else is_row words (reply_fields protocol id words)

-- whether words may follow a status
abbrev pub may_follow : HeaderFields → Status → List ℕ → Bool
may_follow h Success words = has_reply_form h.protocol h.id words
may_follow h s words = length words == 0

-- the status of a payload that has the form of a reply
abbrev pub payload_status : HeaderFields → List ℕ → Option Status
payload_status h [] = None
payload_status h (word ∷ words) =
    option_and_then (λ s. if may_follow h s words then Some s else None) (status_of word)

-- the status of a message that has the form of a reply
abbrev pub response_status : Message → Option Status
response_status m = payload_status m.header m.payload.items

-- the fields of a delayed response's words by the row of its message; none if it has another number
-- of words
abbrev pub later_fields : Option Said → List ℕ → List Field
later_fields (Some row) (status ∷ words) =
    if length words == words_of row.later then fields_by row.later words else []
later_fields _ _ = []

-- the fields of a delayed response after its status
abbrev pub delayed_fields : Message → List Field
delayed_fields m = later_fields (listed_row m.header.protocol m.header.id) m.payload.items

-- the fields of a notification
abbrev pub notification_fields : Message → List Field
notification_fields m =
    let w = m.payload.items in
    if (m.header.protocol == 0x11) && (m.header.id == 0) && (length w == 3) then field.By
    (slice_index w 0) ∷ field.Domain (slice_index w 1) ∷ field.State (slice_index w 2) ∷ []
    else []
