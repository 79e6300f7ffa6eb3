-- Which commands the platform executes, and which of them take effect later.
use Rattle.std.specs.Prelude.{ℕ, ◌%◌, ◌==◌, ◌||◌, Bool, false, List, ◌∷◌, map, set, get_or, Option, Some, None, Result, Ok}
use Rattle.scmi_codec.specs.Command.{command_of}
use Rattle.scmi_codec.specs.declared.command.Command.{Command}
use Rattle.scmi_codec.specs.declared.command.Command.TheVariants.{Power, Clock}
use Rattle.scmi_codec.specs.declared.power_command.PowerCommand.TheVariants as power
use Rattle.scmi_codec.specs.declared.clock_command.ClockCommand.TheVariants as clock
use Rattle.scmi_codec.specs.declared.message.Message.{Message}
use Rattle.scmi_codec.specs.declared.status.Status.{Status}
use Rattle.scmi_link.specs.declared.collected.Collected.{Collected}
use Rattle.scmi_link.specs.declared.collected.Collected.TheVariants as collected
use Rattle.scmi_link.specs.declared.served.Served.{Served}
use Rattle.scmi_link.specs.declared.served.Served.TheVariants as served
use Rattle.scmi_text.specs.declared.step.Step.{Step}
use Rattle.scmi_text.specs.declared.step.Step.TheVariants as step
use Rattle.scmi_text.specs.declared.step_line.StepLine.{StepLine}
use Rattle.scmi_text.specs.declared.step_line.StepLine.TheVariants as line
use Rattle.scmi_chart.specs.Posted.{message_of}
use Rattle.scmi_chart.specs.Signs.{Sign, sent, lane}

-- the agent that a line names; 0 if it names none
abbrev pub line_agent : StepLine → ℕ
line_agent (line.Token a token) = a
line_agent (line.Posted a) = a
line_agent (line.NotPosted a refusal) = a
line_agent (line.Served a served) = a
line_agent (line.Collected a collected) = a
line_agent (line.Flushed a flushed) = a
line_agent (line.P2a a frame) = a
line_agent (line.Closed a closing) = a
line_agent (line.Shut a closing) = a
line_agent (line.Restarted a) = a
line_agent _ = 0

-- a lifeline, if its agent was served
abbrev pub if_done : ℕ → Served → Option ℕ
if_done a served.Done = Some a
if_done a served.Nothing = None

-- a lifeline, if its agent collected an answer
abbrev pub if_got : ℕ → Collected → Option ℕ
if_got a (collected.Got answer) = Some a
if_got a _ = None

-- the lifeline of the agent whose command the platform executed in a step that came to this line,
-- if it did
abbrev pub served_by : Step → StepLine → Option ℕ
served_by s (line.Served a served) = if_done (lane a) served
served_by (step.Do b call) (line.Collected a c) = if_got (lane a) c
served_by (step.Fail b fault call) (line.Collected a c) = if_got (lane a) c
served_by s l = None

-- whether it is this lifeline
abbrev pub is_lane : ℕ → Option ℕ → Bool
is_lane a None = false
is_lane a (Some b) = a == b

-- whether the agent with this lifeline is served in one of these steps
abbrev pub is_served : ℕ → List Step → List StepLine → Bool
is_served a (s ∷ steps) (l ∷ lines) = is_lane a (served_by s l) || is_served a steps lines
is_served a _ _ = false

-- a command that was posted before its agent was served is an executed one
abbrev pub executed_by : Option ℕ → Sign → Sign
executed_by by (sent x a token w) = sent (x || is_lane a by) a token w
executed_by by sign = sign

-- the same of all commands so far
abbrev pub served_so_far : Option ℕ → List Sign → List Sign
served_so_far None signs = signs
served_so_far (Some a) signs = map (executed_by (Some a)) signs

-- whether a command is an asynchronous set
abbrev pub is_asynchronous : Result Command Status → Bool
is_asynchronous (Ok (Power (power.Set flags domain state))) = flags % 2 == 1
is_asynchronous (Ok (Clock (clock.SetRate flags clock rate))) = flags % 2 == 1
is_asynchronous _ = false

-- whether a message that is posted carries an asynchronous set
abbrev pub message_sets_later : Option Message → Bool
message_sets_later None = false
message_sets_later (Some m) = is_asynchronous (command_of m)

-- whether a step posts an asynchronous set
abbrev pub sets_later : Step → Bool
sets_later s = message_sets_later (message_of s)

-- of each lifeline, whether the last command of its agent takes effect later, after a step that
-- came to this line
abbrev pub laters_after : List Bool → Step → StepLine → List Bool
laters_after laters s (line.Token a token) = set laters (lane a) (sets_later s)
laters_after laters s (line.Posted a) = set laters (lane a) (sets_later s)
laters_after laters (step.Do b call) (line.Collected a c) =
    set laters (lane a) (sets_later (step.Do b call))
laters_after laters (step.Fail b fault call) (line.Collected a c) =
    set laters (lane a) (sets_later (step.Fail b fault call))
laters_after laters s l = laters

-- the same of the agent that the line names
abbrev pub is_later : List Bool → Step → StepLine → Bool
is_later laters s l = get_or (laters_after laters s l) (lane (line_agent l)) false
