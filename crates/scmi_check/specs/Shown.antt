-- What the lines of a record show.
use Rattle.std.specs.Prelude.{ℕ, ◌+◌, nat_lt, if◌then◌else◌, List, map, Option, Some, None}
use Rattle.std.specs.List.{slice_split}
use Rattle.std.specs.Str.{bytes_eq}
use Rattle.scmi_board.specs.Items.{◌>>=◌, ItemsView, first_item, first_number, items_left, no_item}
use Rattle.scmi_codec.specs.declared.message.Message.{Message}
use Rattle.scmi_codec.specs.declared.frame.Frame.TheVariants.{Good, Malformed}
use Rattle.scmi_codec.specs.declared.frame.Answer.TheVariants.{Reply, Released, ChannelError}
use Rattle.scmi_decode.specs.Dump.{is_gap}
use Rattle.scmi_decode.specs.Traced.{traced_in}
use Rattle.scmi_decode.specs.declared.event.EventKind.{EventKind}
use Rattle.scmi_decode.specs.declared.event.EventKind.TheVariants as event
use Rattle.scmi_decode.specs.declared.traced.Traced.{Traced}
use Rattle.scmi_decode.specs.declared.traced.Traced.TheVariants as traced
use Rattle.scmi_text.specs.Fields.{first_agent, payload_left}
use Rattle.scmi_text.specs.StepHead.{raw_with}
use Rattle.scmi_text.specs.StepText.{plain_step_of_line, report_left}
use Rattle.scmi_text.specs.WordRow.{form_in}
use Rattle.scmi_text.specs.declared.step.AgentStep.TheVariants as agent
use Rattle.scmi_text.specs.declared.step.Step.{Step}
use Rattle.scmi_text.specs.declared.step.Step.TheVariants as step
use Rattle.scmi_text.specs.declared.word_row.WordRow.{WordRow}
use Rattle.scmi_check.specs.AreaShown.{a2p_shown, area_described, p2a_shown}
use Rattle.scmi_check.specs.TraceLine.{is_trace_line, lost_in}
use Rattle.scmi_check.specs.declared.seen.SeenForm.{SeenForm}
use Rattle.scmi_check.specs.declared.seen.SeenForm.TheVariants as form
use Rattle.scmi_check.specs.declared.seen.TheConstants.{SEEN_FORMS}
use Rattle.scmi_check.specs.declared.shown.Shown.{Shown}
use Rattle.scmi_check.specs.declared.shown.TheConstants.{REPORT}
use Rattle.scmi_check.specs.declared.shown.Shown.TheVariants.{Called, Posted, PostedBeside, Got, Responded, Took, Told, Missed, Skipped}

-- the command that a step posts: by `do`, `raw` or `bad`
abbrev pub command_shown : Step → Option Shown
command_shown (step.Do a call) = Some (Called a call)
command_shown (step.Agent a (agent.Raw message)) = Some (Posted a (Good message))
command_shown (step.Agent a (agent.Malformed len header)) = Some (Posted a (Malformed len header))
command_shown _ = None

-- a header word and all payload words that are left
unfoldable pub first_words : ItemsView → Option Message
first_words view = do
  header ← first_number 32 view
  words ← payload_left header.1
  Some (raw_with header.0 words)

-- what follows the agent and the word: H W.., nothing, or the words of an area
unfoldable pub seen_behind : SeenForm → ℕ → ItemsView → Option Shown
seen_behind form.Reply a view = do
  message ← first_words view
  Some (Got a (Reply message))
seen_behind form.Released a view = do
  end ← no_item view
  Some (Got a Released)
seen_behind form.Error a view = do
  end ← no_item view
  Some (Got a ChannelError)
seen_behind form.P2a a view = do
  message ← first_words view
  Some (Took a message)
seen_behind form.Area a view = do
  area ← area_described view
  a2p_shown a area
seen_behind form.P2aArea a view = do
  area ← area_described view
  p2a_shown a area

-- the forms of such lines, by their words
abbrev pub seen_forms : List (WordRow (List ℕ) SeenForm)
seen_forms = map (λ row. record { word = row.word.now; form = row.form }) SEEN_FORMS

-- what an agent got: A reply H W.., A released, A error, or A p2a H W..; or what is in an area of
-- its channels: A area W.., or A p2a-area W..
unfoldable pub seen_at : ℕ → ItemsView → Option Shown
seen_at agents view = do
  agent ← first_agent agents view
  word ← first_item agent.1
  form ← form_in word.0 seen_forms
  seen_behind form agent.0 word.1

-- what the hardware told, behind the word `report`, as a script has it
unfoldable pub told_left : ItemsView → Option Shown
told_left view = do
  report ← report_left view
  Some (Told report)

-- what happened beside the commands: what the hardware told, or else what an agent got, as a run's
-- output has it
unfoldable pub happened_at : ℕ → ItemsView → Option Shown
happened_at agents view = do
  word ← first_item view
  if bytes_eq word.0 REPORT.now then told_left word.1 else seen_at agents view

-- what a line of a session shows: the command of a step, as a script has it, or else what happened
-- beside the commands
unfoldable pub session_shown : ℕ → List ℕ → Option Shown
session_shown agents text = elim (plain_step_of_line agents text) [
  | Some step ↦ command_shown step
  | None ↦ happened_at agents (items_left text)
]

-- what the message of an event shows: the agent posts a command, over any of its channels, gets the
-- response to that of its token, and takes any other
abbrev pub message_shown : EventKind → ℕ → Message → Shown
message_shown event.Command a message = PostedBeside a message
message_shown event.Response a message = Responded a message
message_shown event.Delayed a message = Took a message
message_shown event.Notification a message = Took a message

-- the same, if the board has the agent of the instance, which is the one after it (own)
abbrev pub event_shown : (agents instance : ℕ) → EventKind → Message → Option Shown
event_shown agents instance k message = if nat_lt instance agents
    then Some (message_shown k (instance + 1) message) else None

-- what items of a line without an event of SCMI show: that events are lost, nothing of another line
-- of a trace, and else that of a line of a session
abbrev pub items_shown : ℕ → List ℕ → List (List ℕ) → Option Shown
items_shown agents text items = elim (lost_in items) [
  | Some lost ↦ Some (Missed lost)
  | None ↦ if is_trace_line items then Some Skipped else session_shown agents text
]

-- the same of a line
abbrev pub other_shown : ℕ → List ℕ → Option Shown
other_shown agents text = items_shown agents text (slice_split is_gap text)

-- what a line shows that is this as one of Linux's ftrace: the message of an event, nothing of
-- another event, and else that of a line without one
abbrev pub traced_shown : ℕ → List ℕ → Traced → Option Shown
traced_shown agents text (traced.Message instance k message) = event_shown agents instance k message
traced_shown agents text traced.Unreadable = None
traced_shown agents text traced.Other = Some Skipped
traced_shown agents text traced.Nothing = other_shown agents text

-- what a line shows
unfoldable pub shown_at : ℕ → List ℕ → Option Shown
shown_at agents text = traced_shown agents text (traced_in text)
