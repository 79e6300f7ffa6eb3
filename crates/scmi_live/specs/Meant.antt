-- What a line of a session means.
use Rattle.std.specs.Prelude.{ℕ, ◌||◌, not, Bool, true, false, if◌then◌else◌, List, length, take, Option, Some, None}
use Rattle.std.specs.Str.{bytes_eq}
use Rattle.scmi_board.specs.Items.{◌>>=◌, items_of}
use Rattle.scmi_board.specs.Lines.{is_significant}
use Rattle.scmi_plan.specs.Board.{Board}
use Rattle.scmi_text.specs.Step.{IsStepOf}
use Rattle.scmi_text.specs.StepText.{hardware_step_of_line, plain_step_of_line}
use Rattle.scmi_text.specs.declared.step.Step.{Step}
use Rattle.scmi_live.specs.NamedStep.{named_step}
use Rattle.scmi_live.specs.declared.meant.Meant.{Meant}
use Rattle.scmi_live.specs.declared.meant.Meant.TheVariants.{Nothing, Describe, Help, Quit, Does, Unknown}
use Rattle.scmi_live.specs.declared.meant.TheConstants.{HELP, HELP_ON, QUIT, WORDS_ON, WORDS_OFF}

-- the step of a line whose items may be names
abbrev pub step_by_names : Board → ℕ → List ℕ → Option Step
step_by_names board agents text = items_of text >>= named_step board agents

-- a step, or if there is none, another
abbrev pub or_step : Option Step → Option Step → Option Step
or_step (Some step) other = Some step
or_step None other = other

-- the step of a line as a script has it
abbrev pub step_by_numbers : ℕ → List ℕ → Option Step
step_by_numbers agents text =
    or_step (plain_step_of_line agents text) (hardware_step_of_line agents text)

-- the step that a line encodes, on a board with this number of agents: a line of numbers is the
-- step that a script has in it, whatever names the board has
abbrev pub step_meant : Board → ℕ → List ℕ → Option Step
step_meant board agents text =
    or_step (step_by_numbers agents text) (step_by_names board agents text)

-- whether replies are described after a line that says so
abbrev pub described_by : List ℕ → Option Bool
described_by text = if bytes_eq text WORDS_ON.now then Some true else if bytes_eq text WORDS_OFF.now
    then Some false else None

-- whether a line asks for help, or for help on something
abbrev pub is_help : List ℕ → Bool
is_help text = bytes_eq text HELP.now || bytes_eq (take (length HELP_ON.now) text) HELP_ON.now

-- a line that asks for help or ends the session, or another
abbrev pub help_or_quit_or : List ℕ → Meant → Meant
help_or_quit_or text other = if is_help text then Help else if bytes_eq text QUIT.now
    then Quit else other

-- a line that is a step, or none
abbrev pub step_or_unknown : Option Step → Meant
step_or_unknown (Some step) = Does step
step_or_unknown None = Unknown

-- a line that says whether replies are described, or another
abbrev pub describe_or : Option Bool → Meant → Meant
describe_or (Some on) other = Describe on
describe_or None other = other

-- the agent that a line names is one of the board's
abbrev pub IsMeantOf : ℕ → Meant → Type 0
IsMeantOf agents (Does step) = IsStepOf agents step
IsMeantOf agents other = Unit {0}

-- what a line means, on a board with this number of agents
unfoldable pub line_meant : Board → ℕ → List ℕ → Meant
line_meant board agents text =
    if not (is_significant text) then Nothing else describe_or (described_by text)
    (help_or_quit_or text (step_or_unknown (step_meant board agents text)))
