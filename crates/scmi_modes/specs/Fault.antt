-- The fault that a run of a known input ends with.
use Rattle.std.specs.Prelude.{◌≡◌, ◌≢◌, ℕ, ◌<◌, ◌⊎◌, ⊤, List, length, Option, None, IfSome}
use Rattle.std.specs.Io.KnownBytes.{Appends}
use Rattle.scmi_io.specs.FaultLine.{fault_line}
use Rattle.scmi_io.specs.Lines.{first_line, after_line}
use Rattle.scmi_io.specs.declared.input.TheConstants.{INPUT_BYTES}
use Rattle.scmi_modes.specs.AnyMode.{Takes, any_text_of}
use Rattle.scmi_modes.specs.Input.{IsFaultOf, IsFaultOrLimit, scripts_of_input, steps_of_input}
use Rattle.scmi_modes.specs.Once.{area_of}
use Rattle.scmi_modes.specs.RunError.{fault_text, status_of}
use Rattle.scmi_modes.specs.declared.any_mode.AnyMode.{AnyMode}
use Rattle.scmi_modes.specs.declared.any_mode.AnyMode.TheVariants as any
use Rattle.scmi_modes.specs.declared.any_mode.Modes.{Modes}
use Rattle.scmi_modes.specs.declared.mode.Mode.TheVariants as mode
use Rattle.scmi_modes.specs.declared.run_error.RunError.{RunError}
use Rattle.scmi_modes.specs.declared.run_error.RunError.TheVariants.{Mode, Size, Read, Area, Memory, Write}
use Rattle.scmi_modes.specs.declared.script_kind.ScriptKind.TheVariants.{Plain, Hardware}

-- a fault of an input of the mode `once`
abbrev pub IsFaultOfOnce : List ℕ → RunError → Type 0
IsFaultOfOnce input Size = INPUT_BYTES < length input
IsFaultOfOnce input Area = area_of input ≡ None
IsFaultOfOnce input Read = ⊤
IsFaultOfOnce input Memory = ⊤
IsFaultOfOnce input Write = ⊤
IsFaultOfOnce input _ = ⊥

-- a fault of what follows the first line, in a mode
abbrev pub IsFaultIn : AnyMode → List ℕ → RunError → Type 0
IsFaultIn (any.Plain mode.Once) input fault = IsFaultOfOnce input fault
IsFaultIn (any.Plain (mode.Steps kind)) input fault =
    IsFaultOf input (steps_of_input Plain input) fault
IsFaultIn (any.Plain (mode.Threads kind)) input fault =
    IsFaultOrLimit input (scripts_of_input input) fault
IsFaultIn (any.Hardware kind) input fault = IsFaultOf input (steps_of_input Hardware input) fault

-- the first line names a mode among these, in which this is a fault of what follows it
pub record IsFaultBehind (modes : Modes) (input : List ℕ) (fault : RunError) : Type 0 where
  pub mode : AnyMode
  pub takes : Takes modes mode
  pub named : first_line input ≡ any_text_of mode
  pub fault_in : IsFaultIn mode (after_line input) fault

-- a fault of an input: it names no mode among these, or is too long, or has another fault after its
-- first line. A failed read, or out of memory, shows nothing of it
abbrev pub IsFaultOfRun : Modes → List ℕ → RunError → Type 0
IsFaultOfRun modes input Mode = (mode : AnyMode) → Takes modes mode
    → first_line input ≢ any_text_of mode
IsFaultOfRun modes input Size = (INPUT_BYTES < length (first_line input))
    ⊎ IsFaultBehind modes input Size
IsFaultOfRun modes input Read = ⊤
IsFaultOfRun modes input Memory = ⊤
IsFaultOfRun modes input fault = IsFaultBehind modes input fault

-- a run ends with this status and the line of a fault, which has that status and is the input's, if
-- that is known. If the input is rejected nothing else is written
pub record EndsWithFault (modes : Modes) (known : Option (List ℕ)) (status : ℕ)
    (old new : Option (List ℕ)) : Type 0 where
  pub fault : RunError
  pub status_is : status ≡ status_of fault
  pub of_input : IfSome known (λ input. IsFaultOfRun modes input fault)
  pub before : Option (List ℕ)
  pub refused : status_of fault ≡ 2 → before ≡ old
  pub text : Appends before new (fault_line (fault_text fault))
