-- What a script on one thread writes.
use Rattle.std.specs.Prelude.{◌≡◌, ◌⊎◌, ℕ, Bool, List, ◌++◌, length, Option, IfSome, Result, Ok, flat_map}
use Rattle.std.specs.List.{All}
use Rattle.std.specs.Io.KnownBytes.{Appends}
use Rattle.scmi_link.specs.View.{CallerView}
use Rattle.scmi_link.specs.RingCaller.{ring_caller_view, ring_close_shows}
use Rattle.scmi_link.specs.declared.closing.Closing.{Closing}
use Rattle.scmi_link.specs.declared.close_error.CloseError.{CloseError}
use Rattle.scmi_words.specs.WordCaller.{word_caller_view, CloseShows}
use Rattle.scmi_core.specs.Plain.{IsPlain}
use Rattle.scmi_plan.specs.Board.{Board}
use Rattle.scmi_ends.specs.Shut.{ShowsClose}
use Rattle.scmi_text.specs.Step.{IsWithoutHardware}
use Rattle.scmi_text.specs.StepLine.{step_text}
use Rattle.scmi_text.specs.declared.step.Step.{Step}
use Rattle.scmi_text.specs.declared.step_line.StepLine.{StepLine}
use Rattle.scmi_text.specs.declared.step_line.StepLine.TheVariants.{Trace}
use Rattle.scmi_modes.specs.SessionView.{SessionView}
use Rattle.scmi_modes.specs.Run.{Runs, IsGathered}
use Rattle.scmi_modes.specs.Input.{steps_of_input}
use Rattle.scmi_modes.specs.Runs.{may_be_full}
use Rattle.scmi_modes.specs.declared.kind.Kind.{Kind}
use Rattle.scmi_modes.specs.declared.kind.Kind.TheVariants.{Rings, Words}
use Rattle.scmi_modes.specs.declared.script_kind.ScriptKind.{ScriptKind}
use Rattle.scmi_modes.specs.declared.script_kind.ScriptKind.TheVariants.{Plain, Hardware}

-- what a close shows at a channel of this kind, by the view after it
abbrev pub shows_close : Kind → CallerView → Result Closing CloseError → Type 0
shows_close Rings = ShowsClose ring_caller_view ring_close_shows
shows_close Words = ShowsClose word_caller_view CloseShows

-- if none of these steps is beside hardware, the history that they leave has commands, advances and
-- postings alone
abbrev pub IsPlainWithoutHardware : List Step → SessionView → Type 0
IsPlainWithoutHardware steps last = All IsWithoutHardware steps → All IsPlain last.platform.history

module _ (full : Bool) (Shows : CallerView → Result Closing CloseError → Type 0) where
  -- what is written is the lines that the first of these steps give, as far as they came
  pub record AreStepLines (board : Board) (steps : List Step)
      (old new : Option (List ℕ)) : Type 0 where
    pub done : List Step
    pub left : List Step
    pub parted : done ++ left ≡ steps
    pub lines : List StepLine
    pub last : SessionView
    pub made : Runs full Shows board done lines last
    pub plain : IsPlainWithoutHardware steps last
    pub text : Appends old new (flat_map step_text lines)

  -- what is written is the lines that all of these steps give, and then the length of the history
  -- that they leave
  pub record IsTextOfSteps (board : Board) (steps : List Step)
      (old new : Option (List ℕ)) : Type 0 where
    pub lines : List StepLine
    pub last : SessionView
    pub made : Runs full Shows board steps lines last
    pub plain : IsPlainWithoutHardware steps last
    pub gathered : IsGathered last
    pub text : Appends old new
        (flat_map step_text lines ++ step_text (Trace (length last.platform.history)))

-- a script of this kind may have the step
abbrev pub MayHave : ScriptKind → Step → Type 0
MayHave Plain step = IsWithoutHardware step
MayHave Hardware step = Unit {0}

-- an input, if it is known, encodes this board and these steps of a script of this kind
abbrev pub AreStepsOf : ScriptKind → Option (List ℕ) → Board → List Step → Type 0
AreStepsOf script known board steps =
    IfSome known (λ input. steps_of_input script input ≡ Ok (board, steps))

-- what is written is the text of all steps that the input encodes, on its board, in a script of
-- this kind
abbrev pub WritesScript : ScriptKind → Option (List ℕ) → Kind → Option (List ℕ)
    → Option (List ℕ) → Type 0
WritesScript script known kind old new =
    (board : Board)
    × (steps : List Step) × AreStepsOf script known board steps × All (MayHave script) steps
    × IsTextOfSteps (may_be_full kind) (shows_close kind) board steps old new

-- what is written is the text of all steps that the input encodes, none of them beside hardware
abbrev pub WritesSteps : Option (List ℕ) → Kind → Option (List ℕ) → Option (List ℕ) → Type 0
WritesSteps known kind old new = WritesScript Plain known kind old new

-- what is written is the text of all steps that the input encodes, beside hardware that refuses if
-- a step says so
abbrev pub WritesHardware : Option (List ℕ) → Kind → Option (List ℕ) → Option (List ℕ) → Type 0
WritesHardware known kind old new = WritesScript Hardware known kind old new

-- nothing is written, or the lines of the first steps that the input encodes, on its board, in a
-- script of this kind
abbrev pub WritesFirstSteps : ScriptKind → Option (List ℕ) → Kind → Option (List ℕ)
    → Option (List ℕ) → Type 0
WritesFirstSteps script known kind old new =
    (new ≡ old) ⊎ ((board : Board)
    × (steps : List Step) × AreStepsOf script known board steps × All (MayHave script) steps
    × AreStepLines (may_be_full kind) (shows_close kind) board steps old new)
