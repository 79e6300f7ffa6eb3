-- Messages and protocols by their names.
use Rattle.std.specs.Prelude.{ℕ, if◌then◌else◌, List, [], ◌∷◌, Option, Some, None}
use Rattle.std.specs.Option.{option_and_then}
use Rattle.std.specs.Str.{bytes_eq}
use Rattle.scmi_board.specs.Number.{number_of}
use Rattle.scmi_codec.specs.Listing.{Protocol, Said, protocols, rows_of}
use Rattle.scmi_live.specs.Names.{or_named}

-- the id of the first of these messages that has this name
abbrev pub id_in : List ℕ → List Said → Option ℕ
id_in name [] = None
id_in name (row ∷ rows) = if bytes_eq row.name name then Some row.id else id_in name rows

-- the first of these protocols that has this name
abbrev pub protocol_in : List ℕ → List Protocol → Option ℕ
protocol_in name [] = None
protocol_in name (row ∷ rows) = if bytes_eq row.name name then Some row.id
    else protocol_in name rows

-- the protocol of a name
abbrev pub protocol_named : List ℕ → Option ℕ
protocol_named item = protocol_in item protocols

-- the protocol that an item encodes
abbrev pub protocol_of : List ℕ → Option ℕ
protocol_of item = or_named (number_of 8 item) (protocol_named item)

-- the message id that an item encodes in a protocol
abbrev pub id_of : ℕ → List ℕ → Option ℕ
id_of protocol item = or_named (number_of 8 item) (id_in item (rows_of protocol))

-- a second message of a name, or the first
abbrev pub one_more : Option (ℕ × ℕ) → (protocol : ℕ) → Option ℕ → Option (Option (ℕ × ℕ))
one_more found protocol None = Some found
one_more None protocol (Some id) = Some (Some (protocol, id))
one_more (Some first) protocol (Some id) = None

-- the protocol and id of the message of a name that one of these protocols has, where others may
-- have been seen
abbrev pub only_in : List ℕ → Option (ℕ × ℕ) → List Protocol → Option (ℕ × ℕ)
only_in name found [] = found
only_in name found (row ∷ rows) = option_and_then (λ next. only_in name next rows)
    (one_more found row.id (id_in name row.messages))

-- the protocol and id of the message of a name that one protocol alone has
abbrev pub message_named : List ℕ → Option (ℕ × ℕ)
message_named name = only_in name None protocols
