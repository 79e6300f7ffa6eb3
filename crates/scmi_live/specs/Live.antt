-- What a session does whose lines are answered one by one, and what it gives to its listener.
use Rattle.std.specs.Prelude.{◌≡◌, ◌<◌, ◌≤◌, ◌+◌, ◌-◌, ◌^◌, ◌⊎◌, ⊤, ℕ, Bool, true, false, List, [], ◌∷◌, ◌++◌, length, Option, Some, None, Result}
use Rattle.std.specs.List.{AllPass, slice_split}
use Rattle.scmi_link.specs.View.{CallerView}
use Rattle.scmi_link.specs.declared.closing.Closing.{Closing}
use Rattle.scmi_link.specs.declared.close_error.CloseError.{CloseError}
use Rattle.scmi_io.specs.Lines.{is_line_feed}
use Rattle.scmi_io.specs.declared.input.TheConstants.{INPUT_BYTES}
use Rattle.scmi_board.specs.BoardLines.{Described}
use Rattle.scmi_board.specs.ValidBoard.{with_its_lines}
use Rattle.scmi_plan.specs.Board.{Board}
use Rattle.scmi_modes.specs.Run.{IsGathered, Runs}
use Rattle.scmi_modes.specs.SessionView.{SessionView}
use Rattle.scmi_modes.specs.SessionSteps.{Steps}
use Rattle.scmi_text.specs.declared.step.Step.{Step}
use Rattle.scmi_text.specs.declared.step_line.StepLine.{StepLine}
use Rattle.scmi_text.specs.declared.step_line.StepLine.TheVariants.{Trace}
use Rattle.scmi_live.specs.Heard.{Gives, Heard}
use Rattle.scmi_live.specs.Meant.{line_meant}
use Rattle.scmi_live.specs.declared.meant.Meant.{Meant}
use Rattle.scmi_live.specs.declared.meant.Meant.TheVariants.{Does, Quit}

-- a session: its board, how many agents that has, and its endpoints
pub record LiveView : Type 0 where
  pub board : Board
  pub agents : ℕ
  pub session : SessionView

-- a line's step, before those of the lines after it; of these none is read after a line that ends
-- the session
abbrev pub step_then : Meant → List Step → List Step
step_then (Does step) others = step ∷ others
step_then Quit others = []
step_then other others = others

-- the steps that lines encode, in order: a line that encodes none is left out
abbrev pub steps_of : Board → ℕ → List (List ℕ) → List Step
steps_of board agents [] = []
steps_of board agents (text ∷ texts) =
    step_then (line_meant board agents text) (steps_of board agents texts)

-- the steps that an input encodes
abbrev pub steps_of_input : Board → List ℕ → List Step
steps_of_input board input = steps_of board (length board.agents) (slice_split is_line_feed input)

-- the steps that lines encode on a board
abbrev pub steps_on : Board → List (List ℕ) → List Step
steps_on board texts = steps_of board (length board.agents) texts

-- steps with the lines that they gave
abbrev pub with_lines : List Step → List StepLine → List Heard
with_lines [] [] = []
with_lines (step ∷ steps) (line ∷ lines) = (Some step, line) ∷ with_lines steps lines
with_lines steps lines = []

-- the length of the history that a session leaves
abbrev pub at_end : SessionView → List Heard
at_end last = (None, Trace (length last.platform.history)) ∷ []

-- whether a session goes on after a line
abbrev pub goes_on : Meant → Bool
goes_on Quit = false
goes_on other = true

-- whether a line is a step
abbrev pub IsStep : Meant → Type 0
IsStep (Does step) = ⊤
IsStep other = ⊥

-- none of these lines ends a session on this board
abbrev pub AllGoOn : Board → List (List ℕ) → Type 0
AllGoOn board texts = AllPass (λ text. goes_on (line_meant board (length board.agents) text)) texts

-- a line after this many is longer than a line of an input may be, or it is one too many to be
-- counted from 1 in 64 bits
abbrev pub IsTooMuch : ℕ → List ℕ → Type 0
IsTooMuch before line = (INPUT_BYTES < length line) ⊎ (2 ^ 64 - 1 ≤ before + 1)

module _ (full : Bool) (Shows : CallerView → Result Closing CloseError → Type 0) where
  -- a step is made, and given to the listener with its line
  pub record MakesStep (step : Step) (before after : LiveView)
      (old new : Option (List Heard)) : Type 0 where
    pub line : StepLine
    pub made : Steps full Shows step line before.session after.session
    pub same : after ≡ record before { session = after.session }
    pub heard : Gives old new ((Some step, line) ∷ [])

  -- an error in a step: it was not given to the listener, or it was made and given
  abbrev pub StopsStep : Step → LiveView → LiveView → Option (List Heard)
      → Option (List Heard) → Type 0
  StopsStep step before after old new = (new ≡ old) ⊎ MakesStep step before after old new

  -- what a line does to a session: one that is not a step leaves all as it is
  abbrev pub AnswersAs : Meant → LiveView → LiveView → Option (List Heard)
      → Option (List Heard) → Type 0
  AnswersAs (Does step) before after old new = MakesStep step before after old new
  AnswersAs other before after old new = (after ≡ before) × (new ≡ old)

  -- what a text does to a session
  abbrev pub Answers : List ℕ → LiveView → LiveView → Option (List Heard)
      → Option (List Heard) → Type 0
  Answers text before after old new =
      AnswersAs (line_meant before.board before.agents text) before after old new

  -- an error at a line: the listener was given nothing, or what the line does was done
  abbrev pub StopsAs : Meant → LiveView → LiveView → Option (List Heard)
      → Option (List Heard) → Type 0
  StopsAs meant before after old new = (new ≡ old) ⊎ AnswersAs meant before after old new

  -- the same at a text
  abbrev pub StopsAt : List ℕ → LiveView → LiveView → Option (List Heard)
      → Option (List Heard) → Type 0
  StopsAt text before after old new =
      StopsAs (line_meant before.board before.agents text) before after old new

  -- the listener is given exactly the steps that the input encodes, made one after the other in a
  -- new session of the board with its channels, each with its line, and then the length of the
  -- history that they leave
  pub record IsSession (said : Described) (input : List ℕ)
      (old new : Option (List Heard)) : Type 0 where
    pub lines : List StepLine
    pub last : SessionView
    pub made : Runs full Shows (with_its_lines said) (steps_of_input said.0 input) lines last
    pub gathered : IsGathered last
    pub heard : Gives old new (with_lines (steps_of_input said.0 input) lines ++ at_end last)

  -- the listener is given exactly the steps that these lines encode, made one after the other in a
  -- new session of the board with its channels, each with its line
  pub record IsAnswered (said : Described) (texts : List (List ℕ))
      (old new : Option (List Heard)) : Type 0 where
    pub lines : List StepLine
    pub last : SessionView
    pub made : Runs full Shows (with_its_lines said) (steps_on said.0 texts) lines last
    pub heard : Gives old new (with_lines (steps_on said.0 texts) lines)

  -- some first lines of the input are answered, and no others
  pub record AreFirstAnswered (said : Described) (input : List ℕ)
      (old new : Option (List Heard)) : Type 0 where
    pub first : List (List ℕ)
    pub others : List (List ℕ)
    pub split : slice_split is_line_feed input ≡ first ++ others
    pub answered : IsAnswered said first old new

  -- a session that ends with an error: some first lines are answered, and no others; or it is
  -- whole, and its end was given too
  abbrev pub IsStopped : Described → List ℕ → Option (List Heard) → Option (List Heard) → Type 0
  IsStopped said input old new = AreFirstAnswered said input old new ⊎ IsSession said input old new

  -- the lines before one that is such are answered, and no others; none of them ends the session
  pub record IsStoppedBefore (Is : ℕ → List ℕ → Type 0) (said : Described) (input : List ℕ)
      (old new : Option (List Heard)) : Type 0 where
    pub first : List (List ℕ)
    pub line : List ℕ
    pub others : List (List ℕ)
    pub split : slice_split is_line_feed input ≡ first ++ line ∷ others
    pub on : AllGoOn said.0 first
    pub is : Is (length first) line
    pub answered : IsAnswered said first old new

  -- the listener refuses a step: the lines before it are answered, and it may be too; none of those
  -- before ends the session
  pub record RefusesStep (said : Described) (input : List ℕ)
      (old new : Option (List Heard)) : Type 0 where
    pub first : List (List ℕ)
    pub line : List ℕ
    pub others : List (List ℕ)
    pub split : slice_split is_line_feed input ≡ first ++ line ∷ others
    pub on : AllGoOn said.0 first
    pub step : IsStep (line_meant said.0 (length said.0.agents) line)
    pub answered : IsAnswered said first old new ⊎ IsAnswered said (first ++ line ∷ []) old new

  -- the listener refuses the end: all lines are answered, and the end may be given too
  abbrev pub RefusesEnd : Described → List ℕ → Option (List Heard) → Option (List Heard) → Type 0
  RefusesEnd said input old new = IsAnswered said (slice_split is_line_feed input) old new
      ⊎ IsSession said input old new

  -- the listener refuses a step or the end
  abbrev pub Refuses : Described → List ℕ → Option (List Heard) → Option (List Heard) → Type 0
  Refuses said input old new = RefusesStep said input old new ⊎ RefusesEnd said input old new
