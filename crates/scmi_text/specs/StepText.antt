-- The steps that a text encodes.
use Rattle.std.specs.Prelude.{ℕ, ◌++◌, Bool, true, false, if◌then◌else◌, List, [], ◌∷◌, map, Option, Some, None, Result}
use Rattle.std.specs.Str.{bytes_eq}
use Rattle.scmi_board.specs.Items.{◌>>=◌, ItemsView, first_item, first_number, items_left, no_item}
use Rattle.scmi_board.specs.Lines.{Line, LinesView, lines_left}
use Rattle.scmi_codec.specs.declared.fault.Fault.{Fault}
use Rattle.scmi_codec.specs.declared.fault.Fault.TheVariants.{HardwareError}
use Rattle.scmi_plan.specs.declared.effect.Effect.TheVariants.{State, Rate, Enabled}
use Rattle.scmi_plan.specs.declared.report.Report.{Report as ReportOf}
use Rattle.scmi_plan.specs.declared.report.Report.TheVariants.{Changed, First, Settled}
use Rattle.scmi_text.specs.Fields.{first_agent, first_clock_rate, first_flag, first_message, first_named_fault, payload_left}
use Rattle.scmi_text.specs.StepHead.{step_with}
use Rattle.scmi_text.specs.TextLines.{after_lines}
use Rattle.scmi_text.specs.WordRow.{form_in}
use Rattle.scmi_text.specs.declared.word_row.WordRow.{WordRow}
use Rattle.scmi_text.specs.declared.step_head.Head.{Head}
use Rattle.scmi_text.specs.declared.step_head.Head.TheVariants.{Do, Call, Raw, Malformed, Collect, P2a, Close, Platform, Advance, Fail, AdvanceFailed, Report, Restart}
use Rattle.scmi_text.specs.declared.step.Step.{Step}
use Rattle.scmi_text.specs.declared.step_form.AgentForm.{AgentForm}
use Rattle.scmi_text.specs.declared.step_form.AgentForm.TheVariants as form
use Rattle.scmi_text.specs.declared.step_form.CommandForm.{CommandForm}
use Rattle.scmi_text.specs.declared.step_form.CommandForm.TheVariants as command
use Rattle.scmi_text.specs.declared.step_form.ReportForm.{ReportForm}
use Rattle.scmi_text.specs.declared.step_form.ReportForm.TheVariants as report
use Rattle.scmi_text.specs.declared.step_form.StepForm.{StepForm}
use Rattle.scmi_text.specs.declared.step_form.StepForm.TheVariants as step
use Rattle.scmi_text.specs.declared.step_form.TheConstants.{FAILED, REFUSED, REPORT_FORMS, STEP_FORMS}
use Rattle.scmi_text.specs.declared.step_kinds.StepKinds.{StepKinds}
use Rattle.scmi_text.specs.declared.step_kinds.StepKinds.TheVariants.{WithoutHardware, All}

-- a line beside hardware, which refuses or reports, or of a restart, is one of a script that may
-- have such lines
abbrev pub with_hardware : StepKinds → Option (Unit {0})
with_hardware WithoutHardware = None
with_hardware All = Some tt

-- `failed`, or `refused` and a status
unfoldable pub first_refusal : ItemsView → Option (Fault × ItemsView)
first_refusal view = do
  word ← first_item view
  if bytes_eq word.0 FAILED.now then Some (HardwareError, word.1)
      else if bytes_eq word.0 REFUSED.now then first_named_fault word.1 else None

-- nothing more, or how the hardware refuses
unfoldable pub advance_head : StepKinds → ItemsView → Option (Head × ItemsView)
advance_head kinds view = elim (no_item view) [
  | Some end ↦ Some (Advance, view)
  | None ↦ (do
    may ← with_hardware kinds
    fault ← first_refusal view
    Some (AdvanceFailed fault.0, fault.1))
]

-- what hardware reports, by its form: a change as D W, C LOW HIGH or C B; the place of the set that
-- ends first; or the rate that a clock gets, as C LOW HIGH
unfoldable pub report_of : ReportForm → ItemsView → Option (ReportOf × ItemsView)
report_of report.State view = do
  domain ← first_number 32 view
  state ← first_number 32 domain.1
  Some (Changed (State domain.0 state.0), state.1)
report_of report.Rate view = do
  rate ← first_clock_rate view
  Some (Changed (Rate rate.0.0 rate.0.1), rate.1)
report_of report.Enabled view = do
  clock ← first_number 32 view
  enabled ← first_flag clock.1
  Some (Changed (Enabled clock.0 enabled.0), enabled.1)
report_of report.First view = do
  place ← first_number 32 view
  Some (First place.0, place.1)
report_of report.Settled view = do
  rate ← first_clock_rate view
  Some (Settled rate.0.0 rate.0.1, rate.1)

-- the forms of what hardware reports, by the words after `report`
abbrev pub report_forms : List (WordRow (List ℕ) ReportForm)
report_forms = map (λ row. record { word = row.word.now; form = row.form }) REPORT_FORMS

-- what hardware reports, by the word of its form
unfoldable pub first_report : ItemsView → Option (ReportOf × ItemsView)
first_report view = do
  word ← first_item view
  form ← form_in word.0 report_forms
  report_of form word.1

-- what hardware reports, and nothing behind it
unfoldable pub report_left : ItemsView → Option ReportOf
report_left view = do
  report ← first_report view
  end ← no_item report.1
  Some report.0

-- what follows `report`
unfoldable pub report_head : StepKinds → ItemsView → Option (Head × ItemsView)
report_head kinds view = do
  may ← with_hardware kinds
  report ← first_report view
  Some (Report report.0, report.1)

-- P M of a command whose changes the hardware refuses
abbrev pub failing_head : Fault → ℕ → ItemsView → Option (Head × ItemsView)
failing_head fault agent view = do
  ids ← first_message view
  Some (Fail agent fault ids.0.0 ids.0.1, ids.1)

-- P M of a command, after a status where that is named
unfoldable pub command_head : StepKinds → CommandForm → ℕ → ItemsView → Option (Head × ItemsView)
command_head kinds command.Do agent view = do
  ids ← first_message view
  Some (Do agent ids.0.0 ids.0.1, ids.1)
command_head kinds command.Call agent view = do
  ids ← first_message view
  Some (Call agent ids.0.0 ids.0.1, ids.1)
command_head kinds command.Fail agent view = do
  may ← with_hardware kinds
  failing_head HardwareError agent view
command_head kinds command.Refuse agent view = do
  may ← with_hardware kinds
  fault ← first_named_fault view
  failing_head fault.0 agent fault.1

-- what follows the agent: P M, a status and P M, H, LENGTH H, or nothing
unfoldable pub agent_head : StepKinds → AgentForm → ℕ → ItemsView → Option (Head × ItemsView)
agent_head kinds (form.Command command) agent view = command_head kinds command agent view
agent_head kinds form.Raw agent view = do
  header ← first_number 32 view
  Some (Raw agent header.0, header.1)
agent_head kinds form.Malformed agent view = do
  len ← first_number 32 view
  header ← first_number 32 len.1
  Some (Malformed agent len.0 header.0, header.1)
agent_head kinds form.Collect agent view = Some (Collect agent, view)
agent_head kinds form.P2a agent view = Some (P2a agent, view)
agent_head kinds form.Close agent view = Some (Close agent, view)
agent_head kinds (form.Platform call) agent view = Some (Platform agent call, view)
agent_head kinds form.Restart agent view = do
  may ← with_hardware kinds
  Some (Restart agent, view)

-- what follows the first word
unfoldable pub head_of : StepKinds → ℕ → StepForm → ItemsView → Option (Head × ItemsView)
head_of kinds agents step.Advance view = advance_head kinds view
head_of kinds agents step.Report view = report_head kinds view
head_of kinds agents (step.Of form) view = do
  agent ← first_agent agents view
  agent_head kinds form agent.0 agent.1

-- the forms of a step's line, by their first words
abbrev pub step_forms : List (WordRow (List ℕ) StepForm)
step_forms = map (λ row. record { word = row.word.now; form = row.form }) STEP_FORMS

-- a line of a step of these kinds, up to its payload words; its agent is from 1 to `agents`
unfoldable pub first_head : StepKinds → ℕ → ItemsView → Option (Head × ItemsView)
first_head kinds agents view = do
  word ← first_item view
  form ← form_in word.0 step_forms
  head_of kinds agents form word.1

-- payload words belong to a step
abbrev pub has_payload : Head → Bool
has_payload (Do agent protocol id) = true
has_payload (Call agent protocol id) = true
has_payload (Raw agent header) = true
has_payload (Fail agent fault protocol id) = true
has_payload _ = false

-- the payload words of a step with this head, or nothing where it has none
unfoldable pub payload_of : Head → ItemsView → Option (List ℕ)
payload_of head view = if has_payload head then payload_left view
    else no_item view >>= λ end. Some []

-- the step of a line; none where the line is no step of these kinds, or of an agent that the board
-- lacks
unfoldable pub step_of_line : StepKinds → ℕ → List ℕ → Option Step
step_of_line kinds agents text = do
  head ← first_head kinds agents (items_left text)
  words ← payload_of head.0 head.1
  Some (step_with head.0 words)

-- the step of a line; a line of hardware has none
abbrev pub plain_step_of_line : ℕ → List ℕ → Option Step
plain_step_of_line agents text = step_of_line WithoutHardware agents text

-- the step of a line, which may be of hardware
abbrev pub hardware_step_of_line : ℕ → List ℕ → Option Step
hardware_step_of_line agents text = step_of_line All agents text

-- steps with that of a line behind them
unfoldable pub with_step : StepKinds → ℕ → List Step → List ℕ → Option (List Step)
with_step kinds agents steps text = do
  step ← step_of_line kinds agents text
  Some (steps ++ step ∷ [])

-- the steps of the lines that are left; else the number of the first invalid line
abbrev pub steps_left : StepKinds → ℕ → LinesView → Result (List Step) ℕ
steps_left kinds agents lines = after_lines (with_step kinds agents) [] (lines_left lines)

-- the same of all lines of a text, none of which may be beside hardware
abbrev pub steps_of_lines : ℕ → List Line → Result (List Step) ℕ
steps_of_lines agents lines = after_lines (with_step WithoutHardware agents) [] lines

-- the same of all lines of a text, which may be beside hardware
abbrev pub hardware_steps_of_lines : ℕ → List Line → Result (List Step) ℕ
hardware_steps_of_lines agents lines = after_lines (with_step All agents) [] lines
