-- Why hardware refuses a change, and the status that says so to the agent (own).
use Rattle.std.specs.Prelude.{ℕ, List, Option, None, Some, map}
use Rattle.std.specs.Borrow.{Bor}
use Rattle.std.specs.List.{find}
use Rattle.std.specs.Option.{option_and_then}
use Rattle.std.specs.Str.{bytes_eq}
use Rattle.scmi_codec.specs.declared.status.Status.{Status}
use Rattle.scmi_codec.specs.declared.status.Status.TheVariants as status
use Rattle.scmi_codec.specs.declared.status.StatusRow.{StatusRow}
use Rattle.scmi_codec.specs.declared.status.TheConstants.{STATUSES}
use Rattle.scmi_codec.specs.declared.fault.Fault.{Fault}
use Rattle.scmi_codec.specs.declared.fault.Fault.TheVariants as fault

-- the status of a fault
abbrev pub fault_status : Fault → Status
fault_status fault.NotSupported = status.NotSupported
fault_status fault.InvalidParameters = status.InvalidParameters
fault_status fault.Denied = status.Denied
fault_status fault.OutOfRange = status.OutOfRange
fault_status fault.Busy = status.Busy
fault_status fault.GenericError = status.GenericError
fault_status fault.HardwareError = status.HardwareError

-- the fault of a status, if it is that of one
abbrev pub fault_of : Status → Option Fault
fault_of status.NotSupported = Some fault.NotSupported
fault_of status.InvalidParameters = Some fault.InvalidParameters
fault_of status.Denied = Some fault.Denied
fault_of status.OutOfRange = Some fault.OutOfRange
fault_of status.Busy = Some fault.Busy
fault_of status.GenericError = Some fault.GenericError
fault_of status.HardwareError = Some fault.HardwareError
fault_of status.Success = None
fault_of status.NotFound = None
fault_of status.CommsError = None
fault_of status.ProtocolError = None

-- the name and the status of a row
abbrev pub named : StatusRow (Bor (List ℕ)) → List ℕ × Status
named row = (row.name.now, row.status)

-- the fault of the first status that has this name, if hardware says it
abbrev pub fault_in : List ℕ → List (List ℕ × Status) → Option Fault
fault_in name rows =
    option_and_then (λ row. fault_of row.1) (find (λ row. bytes_eq row.0 name) rows)

-- the names of the statuses
abbrev pub named_statuses : List (List ℕ × Status)
named_statuses = map (λ row. (row.name.now, row.status)) STATUSES
