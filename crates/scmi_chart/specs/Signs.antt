-- What the marks of a chart show of a run.
use Rattle.std.specs.Prelude.{ℕ, Bool, true, false, ◌==◌, if◌then◌else◌, List, [], ◌∷◌, ◌++◌, Option, Some, None, min, Result, Ok, Err}
use Rattle.scmi_codec.specs.Header.{HeaderFields}
use Rattle.scmi_codec.specs.Payload.{begins_with_success}
use Rattle.scmi_codec.specs.Fault.{fault_status}
use Rattle.scmi_codec.specs.Status.{status_word}
use Rattle.scmi_codec.specs.declared.fault.Fault.{Fault}
use Rattle.scmi_codec.specs.declared.frame.Answer.{Answer}
use Rattle.scmi_codec.specs.declared.frame.Answer.TheVariants.{Reply}
use Rattle.scmi_codec.specs.declared.frame.Frame.{Frame}
use Rattle.scmi_codec.specs.declared.frame.Frame.TheVariants.{Good}
use Rattle.scmi_link.specs.declared.collected.Collected.{Collected}
use Rattle.scmi_link.specs.declared.collected.Collected.TheVariants as collected
use Rattle.scmi_link.specs.declared.closing.Closing.{Closing}
use Rattle.scmi_link.specs.declared.close_error.CloseError.{CloseError}
use Rattle.scmi_link.specs.declared.served.Served.{Served}
use Rattle.scmi_link.specs.declared.served.Served.TheVariants as served
use Rattle.scmi_link.specs.declared.flushed.Flushed.{Flushed}
use Rattle.scmi_link.specs.declared.flushed.Flushed.TheVariants as flushed
use Rattle.scmi_link.specs.declared.shut_error.ShutError.{ShutError}
use Rattle.scmi_text.specs.declared.step.Step.{Step}
use Rattle.scmi_text.specs.declared.step.Step.TheVariants as step
use Rattle.scmi_text.specs.declared.step.AgentStep.TheVariants as agent_step
use Rattle.scmi_text.specs.declared.step_line.StepLine.{StepLine}
use Rattle.scmi_text.specs.declared.step_line.StepLine.TheVariants as line
use Rattle.scmi_chart.specs.declared.mark.Mark.{Mark}
use Rattle.scmi_chart.specs.declared.mark.Mark.TheVariants as mark
use Rattle.scmi_chart.specs.declared.mark.Outcome.{Outcome}
use Rattle.scmi_chart.specs.declared.mark.Outcome.TheVariants as outcome
use Rattle.scmi_chart.specs.declared.mark.Side.{Side}
use Rattle.scmi_chart.specs.declared.mark.Side.TheVariants as side
use Rattle.scmi_chart.specs.declared.mark.Message.{Message as Arrow}
use Rattle.scmi_chart.specs.Detail.{answer_detail, message_detail, step_detail}

-- what a mark shows, with the header and the words of its message in hexadecimal: whether a command
-- that an agent posted was executed, with its token if it has one; a post was refused; the platform
-- executed a command; the outcome of the answer to its command that an agent read; an agent took a
-- delayed response or a notification; the platform posted a message; it was to complete a pending
-- set, and whether there was one; it ended one whose change the hardware refused; an agent's
-- command was answered with the status with which the hardware beside it refuses; channels were
-- closed; an agent restarted; a step of an agent's came to nothing; or, of number 0, the hardware
-- reported something, which the platform took over
pub data Sign : Type 0 where
  sent : Bool → ℕ → Option ℕ → List ℕ → Sign
  unsent : ℕ → List ℕ → Sign
  executed : Sign
  answered : ℕ → Outcome → List ℕ → Sign
  delayed : ℕ → ℕ → List ℕ → Sign
  notified : ℕ → List ℕ → Sign
  posted : Sign
  advanced : Bool → Sign
  failed : Sign
  faulted : ℕ → Sign
  closed : ℕ → Side → Sign
  restarted : ℕ → Sign
  remarked : ℕ → Sign

-- the header and the words of the message of an arrow, in hexadecimal
abbrev pub detail_of : Arrow → List ℕ
detail_of m = m.detail.items

-- what a mark shows
abbrev pub sign_of : Mark → Sign
sign_of (mark.Command m token) = sent true m.agent token (detail_of m)
sign_of (mark.Withdrawn m token) = sent false m.agent token (detail_of m)
sign_of (mark.Refused m) = unsent m.agent (detail_of m)
sign_of (mark.Execution slot until) = executed
sign_of (mark.Reply m outcome) = answered m.agent outcome (detail_of m)
sign_of (mark.Delayed m token) = delayed m.agent token (detail_of m)
sign_of (mark.Notification m) = notified m.agent (detail_of m)
sign_of (mark.Posted slot) = posted
sign_of (mark.Advance slot effective text) = advanced effective
sign_of (mark.Closed agent slot by text) = closed agent by
sign_of (mark.Remark agent slot beside text) = remarked agent
sign_of (mark.Failed slot text) = failed
sign_of (mark.Fault agent slot text) = faulted agent
sign_of (mark.Restarted agent slot text) = restarted agent

-- the lifeline of an agent: boards have 8 at most
abbrev pub lane : ℕ → ℕ
lane agent = min agent 255

-- the token of a message that a step posts as it is
abbrev pub raw_token : Step → Option ℕ
raw_token (step.Agent a (agent_step.Raw m)) = Some m.header.token
raw_token _ = None

-- the token of the reply that was collected
abbrev pub reply_token : Collected → Option ℕ
reply_token (collected.Got (Reply m)) = Some m.header.token
reply_token _ = None

-- whether an answer is a reply with the status SUCCESS
abbrev pub is_success : Answer → Bool
is_success (Reply m) = begins_with_success m.payload.items
is_success _ = false

-- the outcome of an answer: a refusal, or a success, of a set that takes effect later or of another
-- command
abbrev pub outcome_of : Answer → Bool → Outcome
outcome_of answer later = if is_success answer
    then (if later then outcome.Pending else outcome.Success) else outcome.Refusal

-- whether words are the payload of a reply with the status of this fault
abbrev pub begins_with_fault : Fault → List ℕ → Bool
begins_with_fault fault [] = false
begins_with_fault fault (status ∷ words) = status == status_word (fault_status fault)

-- whether what was collected is a reply with the status of this fault
abbrev pub has_fault : Fault → Collected → Bool
has_fault fault (collected.Got (Reply m)) = begins_with_fault fault m.payload.items
has_fault fault _ = false

-- what is shown of an agent that read an answer with this outcome
abbrev pub answered_sign : ℕ → Answer → Outcome → Sign
answered_sign a answer outcome = answered a outcome (answer_detail answer)

-- what is shown of a command that a step posted with this token, if it is known
abbrev pub sent_sign : Bool → Step → ℕ → Option ℕ → Sign
sent_sign x s a token = sent x a token (step_detail s token)

-- what is shown of an agent that collected, whose last command was to take effect later or at once
abbrev pub collected_signs : ℕ → Bool → Collected → List Sign
collected_signs a later collected.Nothing = remarked a ∷ []
collected_signs a later collected.Closed = remarked a ∷ []
collected_signs a later (collected.Got answer) =
    answered_sign a answer (outcome_of answer later) ∷ []

-- what is shown of an agent's command before it is collected in the same step: it was executed if
-- it was answered
abbrev pub exchange_signs : Bool → Step → ℕ → Collected → List Sign
exchange_signs x s a (collected.Got answer) =
    sent_sign x s a (reply_token (collected.Got answer)) ∷ executed ∷ []
exchange_signs x s a c = sent_sign x s a (reply_token c) ∷ []

-- what is shown of hardware that refuses with this fault, before an agent collected in the same
-- step
abbrev pub fault_signs : Fault → ℕ → Collected → List Sign
fault_signs fault a c = if has_fault fault c then faulted a ∷ [] else []

-- what is shown of a pending set that was to end, whose change the hardware refused
abbrev pub failed_signs : Bool → List Sign
failed_signs true = failed ∷ []
failed_signs false = advanced false ∷ []

-- what is shown of a report of the hardware, by whether the platform took it over
abbrev pub reported_signs : Bool → List Sign
reported_signs true = remarked 0 ∷ []
reported_signs false = []

-- what is shown of an agent that took a message with this header, which reports this
abbrev pub posted_sign : ℕ → HeaderFields → List ℕ → Sign
posted_sign a h says = if h.kind == 3 then notified a says else delayed a h.token says

-- what is shown of an agent that was to take a message
abbrev pub taken_signs : ℕ → Option Frame → List Sign
taken_signs a (Some (Good m)) = posted_sign a m.header (message_detail m) ∷ []
taken_signs a _ = remarked a ∷ []

-- what is shown of an agent that was served
abbrev pub served_signs : ℕ → Served → List Sign
served_signs a served.Done = executed ∷ []
served_signs a served.Nothing = remarked a ∷ []

-- what is shown of an agent to which a message was to be posted
abbrev pub flushed_signs : ℕ → Flushed → List Sign
flushed_signs a flushed.Posted = posted ∷ []
flushed_signs a _ = remarked a ∷ []

-- what is shown of an agent that was to close its channels
abbrev pub closed_signs : ℕ → Result Closing CloseError → List Sign
closed_signs a (Ok closing) = closed a side.Agent ∷ []
closed_signs a (Err refusal) = remarked a ∷ []

-- what is shown of an agent whose channels the platform was to close
abbrev pub shut_signs : {T : Type 0} → ℕ → Result T ShutError → List Sign
shut_signs a (Ok u) = closed a side.Platform ∷ []
shut_signs a (Err refusal) = remarked a ∷ []

-- what is shown of a step that came to this line: each command that was posted, and whether it is
-- executed, in this step or later; each post that was refused, each execution, answer and message,
-- each message that was posted, each advance, each refusal and each report of the hardware, each
-- restart and each close, by its agent, once, in the words of its message; and what came to
-- nothing. A set of the agent's last command may be one that takes effect later
abbrev pub signs_of : Bool → Bool → Step → StepLine → List Sign
signs_of x later s (line.Token a token) = sent_sign x s (lane a) (Some token) ∷ []
signs_of x later s (line.Posted a) = sent_sign x s (lane a) (raw_token s) ∷ []
signs_of x later s (line.NotPosted a refusal) = unsent (lane a) (step_detail s None) ∷ []
signs_of x later s (line.Served a served) = served_signs (lane a) served
signs_of x later (step.Do b call) (line.Collected a c) =
    exchange_signs x (step.Do b call) (lane a) c ++ collected_signs (lane a) later c
signs_of x later (step.Fail b fault call) (line.Collected a c) =
    exchange_signs x (step.Fail b fault call) (lane a) c ++ fault_signs fault (lane a) c
    ++ collected_signs (lane a) later c
signs_of x later s (line.Collected a c) = collected_signs (lane a) later c
signs_of x later s (line.Advanced more) = advanced more ∷ []
signs_of x later s (line.AdvanceFailed more) = failed_signs more
signs_of x later s (line.Reported taken) = reported_signs taken
signs_of x later s (line.Flushed a flushed) = flushed_signs (lane a) flushed
signs_of x later s (line.P2a a frame) = taken_signs (lane a) frame
signs_of x later s (line.Closed a closing) = closed_signs (lane a) closing
signs_of x later s (line.Shut a closing) = shut_signs (lane a) closing
signs_of x later s (line.Restarted a) = restarted (lane a) ∷ []
signs_of x later s (line.Trace events) = []
