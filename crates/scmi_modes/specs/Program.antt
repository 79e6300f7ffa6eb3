-- What is written of an input that is known.
use Rattle.std.specs.Prelude.{◌≡◌, ◌≢◌, ℕ, List, Option, Some, IfSome}
use Rattle.scmi_io.specs.Lines.{first_line, after_line}
use Rattle.scmi_modes.specs.AnyMode.{Takes, any_text_of, hardware_text}
use Rattle.scmi_modes.specs.Mode.{text_of}
use Rattle.scmi_modes.specs.Once.{IsAnswerTo}
use Rattle.scmi_modes.specs.Runs.{IsTextOfRun, may_be_full}
use Rattle.scmi_modes.specs.Steps.{WritesHardware, WritesSteps}
use Rattle.scmi_modes.specs.declared.any_mode.AnyMode.{AnyMode}
use Rattle.scmi_modes.specs.declared.any_mode.Modes.{Modes}
use Rattle.scmi_modes.specs.declared.kind.Kind.{Kind}
use Rattle.scmi_modes.specs.declared.mode.Mode.TheVariants.{Once, Steps, Threads}

-- if the first line names the mode `once`, what is written is the answer to what follows it
abbrev pub AnswersOnce : Option (List ℕ) → Option (List ℕ) → Option (List ℕ) → Type 0
AnswersOnce known old new =
    IfSome known (λ input. first_line input ≡ text_of Once → IsAnswerTo (after_line input) old new)

-- if the first line names a mode `threads`, what is written is the text of a run, to their ends, of
-- the scripts that follow it
abbrev pub RunsThreads : Option (List ℕ) → Option (List ℕ) → Option (List ℕ) → Type 0
RunsThreads known old new =
    IfSome known (λ input. (kind : Kind) → first_line input ≡ text_of (Threads kind)
    → IsTextOfRun (may_be_full kind) (Some (after_line input)) old new)

-- if the first line names a mode `steps`, what is written is the text of all steps that follow it,
-- on the board there
abbrev pub RunsSteps : Option (List ℕ) → Option (List ℕ) → Option (List ℕ) → Type 0
RunsSteps known old new =
    IfSome known (λ input. (kind : Kind) → first_line input ≡ text_of (Steps kind)
    → WritesSteps (Some (after_line input)) kind old new)

-- the same if it names a mode `hardware`, beside hardware
abbrev pub RunsHardware : Option (List ℕ) → Option (List ℕ) → Option (List ℕ) → Type 0
RunsHardware known old new =
    IfSome known (λ input. (kind : Kind) → first_line input ≡ hardware_text kind
    → WritesHardware (Some (after_line input)) kind old new)

-- the first line names a mode among these
abbrev pub NamesMode : Modes → Option (List ℕ) → Type 0
NamesMode modes known = IfSome known
    (λ input. (mode : AnyMode) × Takes modes mode × (first_line input ≡ any_text_of mode))

-- the first line names no mode `hardware`
abbrev pub NamesNoHardware : Option (List ℕ) → Type 0
NamesNoHardware known =
    IfSome known (λ input. (kind : Kind) → first_line input ≢ hardware_text kind)
