-- What a message asks of a board.
use Rattle.std.specs.Prelude.{◌==◌, ◌&&◌, ◌||◌, Bool, not, if◌then◌else◌, Result, Err}
use Rattle.scmi_codec.specs.Command.{command_of}
use Rattle.scmi_codec.specs.declared.command.Command.{Command}
use Rattle.scmi_codec.specs.declared.header.Header.{Header}
use Rattle.scmi_codec.specs.declared.message.Message.{Message}
use Rattle.scmi_codec.specs.declared.status.Status.{Status}
use Rattle.scmi_codec.specs.declared.status.Status.TheVariants.{NotSupported}
use Rattle.scmi_plan.specs.Board.{Board, serves}

-- the command of a protocol with resources that the board has not (own)
abbrev pub lacks_protocol : Board → Header → Bool
lacks_protocol board header =
    header.kind == 0 && (header.protocol == 0x11 || header.protocol == 0x14)
    && not (serves board header.protocol)

-- the command that a message carries, or the status of the first check that fails; the protocols
-- that the board has not are not supported
abbrev pub command_on : Board → Message → Result Command Status
command_on board m = if lacks_protocol board m.header then Err NotSupported else command_of m
