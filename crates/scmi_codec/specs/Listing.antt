-- What the tables of messages say: each is a constant of the program, which is looked up here as
-- there.
use Rattle.std.specs.Prelude.{ℕ, ◌==◌, ◌+◌, if◌then◌else◌, Bool, List, [], ◌∷◌, map, Option, Some, None}
use Rattle.std.specs.Borrow.{Bor}
use Rattle.std.specs.Option.{option_map, option_map_or, is_some}
use Rattle.scmi_codec.specs.Row.{Row}
use Rattle.scmi_codec.specs.declared.status.Status.{Status}
use Rattle.scmi_codec.specs.declared.status.Status.TheVariants.{ProtocolError, NotSupported}
use Rattle.scmi_codec.specs.declared.messages.Part.{Part}
use Rattle.scmi_codec.specs.declared.messages.Part.TheVariants as part
use Rattle.scmi_codec.specs.declared.messages.MessageRow.{MessageRow}
use Rattle.scmi_codec.specs.declared.protocols.ProtocolRow.{ProtocolRow}
use Rattle.scmi_codec.specs.declared.protocols.TheConstants.{PROTOCOLS}

-- a message: id, name, the parts of its payload, of its reply and of its delayed response behind
-- their status
abbrev pub Said : Type 0
Said = MessageRow (List ℕ) (List Part)

-- a row as the program has it
abbrev pub HeldRow : Type 0
HeldRow = MessageRow (Bor (List ℕ)) (Bor (List Part))

-- what a row says
abbrev pub said : HeldRow → Said
said row = record {
  id = row.id;
  name = row.name.now;
  asks = row.asks.now;
  gives = row.gives.now;
  later = row.later.now;
}

-- a protocol: id, short name, version, and its messages
abbrev pub Protocol : Type 0
Protocol = ProtocolRow (List ℕ) (List Said)

-- a protocol's row as the program has it
abbrev pub HeldProtocol : Type 0
HeldProtocol = ProtocolRow (Bor (List ℕ)) (Bor (List HeldRow))

-- what a protocol's row says
abbrev pub protocol_said : HeldProtocol → Protocol
protocol_said row = record {
  id = row.id;
  name = row.name.now;
  version = row.version;
  messages = map said row.messages.now;
}

-- the protocols of the profile
abbrev pub protocols : List Protocol
protocols = map (λ p. record {
  id = p.id;
  name = p.name.now;
  version = p.version;
  messages = map (λ r. record {
    id = r.id;
    name = r.name.now;
    asks = r.asks.now;
    gives = r.gives.now;
    later = r.later.now;
  }) p.messages.now;
}) PROTOCOLS

-- the first row of an id
abbrev pub protocol_in : ℕ → List Protocol → Option Protocol
protocol_in id [] = None
protocol_in id (row ∷ rows) = if row.id == id then Some row else protocol_in id rows

-- the row of a protocol
abbrev pub protocol_row : ℕ → Option Protocol
protocol_row id = protocol_in id protocols

-- the messages of a protocol; none of one that is not of the profile
abbrev pub messages_of : ℕ → List Said
messages_of protocol = option_map_or (λ row. row.messages) (protocol_row protocol) []

-- the messages of the base protocol
abbrev pub base_rows : List Said
base_rows = messages_of 0x10

-- the messages of the power domain protocol
abbrev pub power_rows : List Said
power_rows = messages_of 0x11

-- the messages of the clock protocol
abbrev pub clock_rows : List Said
clock_rows = messages_of 0x14

-- the same, of which a proof sees what is listed only where it asks for it
unfoldable pub rows_of : ℕ → List Said
rows_of protocol = messages_of protocol

-- the first row of an id
abbrev pub row_in : ℕ → List Said → Option Said
row_in id [] = None
row_in id (row ∷ rows) = if row.id == id then Some row else row_in id rows

-- the row of a message
abbrev pub listed_row : ℕ → ℕ → Option Said
listed_row protocol id = row_in id (rows_of protocol)

-- whether a protocol has a message
abbrev pub is_listed : ℕ → ℕ → Bool
is_listed protocol id = is_some (listed_row protocol id)

-- the name of a message
abbrev pub message_name : ℕ → ℕ → Option (List ℕ)
message_name protocol id = option_map (λ row. row.name) (listed_row protocol id)

-- the words of a part of fixed size
abbrev pub size_of : Part → ℕ
size_of part.Name = 4
size_of part.Statistics = 3
size_of part.Rate = 2
size_of _ = 1

-- the words of parts of fixed size
abbrev pub words_of : List Part → ℕ
words_of [] = 0
words_of (p ∷ ps) = size_of p + words_of ps

-- the number of payload words of a command, if it is listed
abbrev pub listed_words : ℕ → ℕ → Option ℕ
listed_words protocol id = option_map (λ row. words_of row.asks) (listed_row protocol id)

-- the number of payload words of a command; 0 for an unknown message
abbrev pub wanted_words : ℕ → ℕ → ℕ
wanted_words protocol id = option_map_or (λ row. words_of row.asks) (listed_row protocol id) 0

-- the rows of a protocol, each with the command that its payload words give
abbrev pub table_of : {C : Type 0} → List Said → List (List ℕ → C) → List (Row C)
table_of (row ∷ rows) (make ∷ makes) = (row.id, words_of row.asks, make) ∷ table_of rows makes
table_of _ _ = []

-- what is wrong with a message whose number of payload words no command of its id has
abbrev pub misfit : ℕ → ℕ → Status
misfit protocol id = if is_listed protocol id then ProtocolError else NotSupported
