-- Why hardware refused, as a program in C says it: by the number of a status, in two's complement.
use Rattle.std.specs.Prelude.{ℕ, Option}
use Rattle.std.specs.Option.{option_and_then}
use Rattle.scmi_codec.specs.Status.{status_of}
use Rattle.scmi_codec.specs.Fault.{fault_of}
use Rattle.scmi_codec.specs.declared.fault.Fault.{Fault}

-- the fault of a number, if it is that of a status which says why hardware refused
abbrev pub fault_said : ℕ → Option Fault
fault_said number = option_and_then fault_of (status_of number)
