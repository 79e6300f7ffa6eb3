-- The exit statuses of a run.
use Rattle.std.specs.Prelude.{ℕ}
use Rattle.scmi_io.specs.declared.input_error.InputError.{InputError}
use Rattle.scmi_io.specs.declared.input_error.InputError.TheVariants as input
use Rattle.scmi_decode.specs.declared.decode_error.DecodeError.{DecodeError}
use Rattle.scmi_decode.specs.declared.decode_error.DecodeError.TheVariants.{Size, Read, Memory, Write, NoArea}

-- 1 for a failed output, 4 for out of memory, and 2 for a refused input (own)
abbrev pub status_of : DecodeError → ℕ
status_of Write = 1
status_of Memory = 4
status_of Size = 2
status_of Read = 2
status_of NoArea = 2

-- an input that is not read
abbrev pub fault_of_input : InputError → DecodeError
fault_of_input input.Size = Size
fault_of_input input.Read = Read
fault_of_input input.Memory = Memory
