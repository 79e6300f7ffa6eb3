-- The area that holds a message.
use Rattle.std.specs.Prelude.{ℕ, ◌+◌, ◌*◌, ◌-◌, ◌&&◌, nat_lt, Bool, if◌then◌else◌, List, ◌++◌, length, replicate, Option, Some, None}
use Rattle.std.specs.Int.{to_le_bytes, w32}
use Rattle.scmi_codec.specs.declared.area.TheConstants.{AREA_BYTES}
use Rattle.scmi_codec.specs.declared.payload.TheConstants.{PAYLOAD_WORDS}

-- whether a message has a header, and not too many payload bytes
abbrev pub fits_area : List ℕ → Bool
fits_area message = nat_lt 3 (length message) && nat_lt (length message) (4 + 4 * PAYLOAD_WORDS + 1)

-- the bytes before the end of a message: a reserved word, the status word, a reserved field and the
-- flags, the length
unfoldable pub message_start : (status : ℕ) → (message : List ℕ) → List ℕ
message_start status message = replicate 4 0 ++ to_le_bytes w32 status ++ replicate 12 0
    ++ to_le_bytes w32 (length message) ++ message

-- bytes with as many zeros after them as an area has
abbrev pub padded : List ℕ → List ℕ
padded bytes = bytes ++ replicate (AREA_BYTES - length bytes) 0

-- the area of a message, header first, in a channel of this status word
unfoldable pub message_area : (status : ℕ) → (message : List ℕ) → Option (List ℕ)
message_area status message = if fits_area message
    then Some (padded (message_start status message)) else None
