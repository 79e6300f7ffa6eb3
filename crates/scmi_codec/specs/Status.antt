-- Status codes and their names (DEN0056B, status codes): the table is a constant of the program.
use Rattle.std.specs.Prelude.{ℕ, ◌==◌, get_or, map, Option, List, []}
use Rattle.std.specs.List.{find}
use Rattle.std.specs.Option.{option_map}
use Rattle.scmi_codec.specs.declared.status.Status.{Status}
use Rattle.scmi_codec.specs.declared.status.Status.TheVariants.{Success, NotSupported, InvalidParameters, Denied, NotFound, OutOfRange, Busy, CommsError, GenericError, HardwareError, ProtocolError}
use Rattle.scmi_codec.specs.declared.status.TheConstants.{STATUSES}

-- the row of a status in the table, counted from 0
abbrev pub place : Status → ℕ
place Success = 0
place NotSupported = 1
place InvalidParameters = 2
place Denied = 3
place NotFound = 4
place OutOfRange = 5
place Busy = 6
place CommsError = 7
place GenericError = 8
place HardwareError = 9
place ProtocolError = 10

-- the payload word of a status: its code, 0 or below, in two's complement
abbrev pub status_word : Status → ℕ
status_word s = get_or (map (λ row. row.word) STATUSES) (place s) 0

-- the name of a status
abbrev pub status_name : Status → List ℕ
status_name s = get_or (map (λ row. row.name.now) STATUSES) (place s) []

-- the status of a code, if there is one
abbrev pub status_of : ℕ → Option Status
status_of word = option_map (λ row. row.status) (find (λ row. row.word == word) STATUSES)
