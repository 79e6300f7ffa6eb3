-- The commands of all protocols, as messages carry them (own order of checks).
use Rattle.std.specs.Prelude.{◌≡◌, ℕ, ◌==◌, if◌then◌else◌, List, length, Some, Result, Ok, Err}
use Rattle.scmi_codec.specs.Header.{HeaderFields}
use Rattle.scmi_codec.specs.Listing.{listed_words}
use Rattle.scmi_codec.specs.BaseCommand.{base_of, base_id, base_words}
use Rattle.scmi_codec.specs.PowerCommand.{power_of, power_id, power_words}
use Rattle.scmi_codec.specs.ClockCommand.{clock_of, clock_id, clock_words}
use Rattle.scmi_codec.specs.declared.status.Status.{Status}
use Rattle.scmi_codec.specs.declared.status.Status.TheVariants.{ProtocolError, NotSupported}
use Rattle.scmi_codec.specs.declared.message.Message.{Message}
use Rattle.scmi_codec.specs.declared.command.Command.{Command}
use Rattle.scmi_codec.specs.declared.command.Command.TheVariants.{Base, Power, Clock}

-- an Ok with a function applied, an error as it is
abbrev pub map_ok : {A B : Type 0} → (A → B) → Result A Status → Result B Status
map_ok f (Ok x) = Ok (f x)
map_ok f (Err e) = Err e

-- the command that a message carries, or the status of the first check that fails
abbrev pub command_of : Message → Result Command Status
command_of m =
    if m.header.kind == 0 then
    (if m.header.protocol == 0x10 then map_ok Base (base_of m.header.id m.payload.items)
    else if m.header.protocol == 0x11 then map_ok Power (power_of m.header.id m.payload.items)
    else if m.header.protocol == 0x14 then map_ok Clock (clock_of m.header.id m.payload.items)
    else Err NotSupported)
    else Err ProtocolError

-- the payload words of a command
abbrev pub command_words : Command → List ℕ
command_words (Base c) = base_words c
command_words (Power c) = power_words c
command_words (Clock c) = clock_words c

-- the header of a command of a protocol, with reserved bits and type 0
abbrev pub protocol_header : ℕ → ℕ → ℕ → HeaderFields
protocol_header protocol token id =
    record { reserved = 0; token = token; protocol = protocol; kind = 0; id = id }

-- the header of a command that carries a token
abbrev pub command_header : Command → ℕ → HeaderFields
command_header (Base c) token = protocol_header 0x10 token (base_id c)
command_header (Power c) token = protocol_header 0x11 token (power_id c)
command_header (Clock c) token = protocol_header 0x14 token (clock_id c)

-- whether the message of a command is in the tables, with as many payload words as the command has
abbrev pub IsListed : Command → Type 0
IsListed (Base c) = listed_words 0x10 (base_id c) ≡ Some (length (base_words c))
IsListed (Power c) = listed_words 0x11 (power_id c) ≡ Some (length (power_words c))
IsListed (Clock c) = listed_words 0x14 (clock_id c) ≡ Some (length (clock_words c))
