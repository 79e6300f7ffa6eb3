-- The exit statuses of a session.
use Rattle.std.specs.Prelude.{⊤, ℕ}
use Rattle.scmi_io.specs.declared.input_error.InputError.{InputError}
use Rattle.scmi_io.specs.declared.input_error.InputError.TheVariants as input
use Rattle.scmi_live.specs.declared.live_error.LiveError.{LiveError}
use Rattle.scmi_live.specs.declared.live_error.LiveError.TheVariants.{Size, Read, Memory, Write}

-- 1 for a failed output, 4 for out of memory, and 2 for a rejected input (own)
abbrev pub status_of : LiveError → ℕ
status_of Write = 1
status_of Memory = 4
status_of Size = 2
status_of Read = 2

-- memory or the output is refused
abbrev pub IsRefused : LiveError → Type 0
IsRefused Memory = ⊤
IsRefused Write = ⊤
IsRefused _ = ⊥

-- an input that is not read
abbrev pub fault_of_input : InputError → LiveError
fault_of_input input.Size = Size
fault_of_input input.Read = Read
fault_of_input input.Memory = Memory
