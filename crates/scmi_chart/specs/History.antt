-- The steps that draw what a run of agents in threads left.
use Rattle.std.specs.Prelude.{ℕ, ◌+◌, ◌-◌, nat_eq, nat_lt, if◌then◌else◌, List, [], ◌∷◌, ◌++◌, length, slice_get, Some, None, is_some}
use Rattle.std.specs.List.{count_by}
use Rattle.scmi_codec.specs.declared.fault.Fault.{Fault}
use Rattle.scmi_codec.specs.declared.frame.Frame.{Frame}
use Rattle.scmi_codec.specs.declared.frame.Frame.TheVariants as frame
use Rattle.scmi_codec.specs.declared.message.Message.{Message}
use Rattle.scmi_core.specs.declared.event.Event.{Event}
use Rattle.scmi_core.specs.declared.event.Event.TheVariants as event
use Rattle.scmi_plan.specs.declared.report.Report.{Report}
use Rattle.scmi_plan.specs.declared.report.Report.TheVariants as report
use Rattle.scmi_text.specs.declared.step.Call.{Call}
use Rattle.scmi_text.specs.declared.step.Step.{Step}
use Rattle.scmi_text.specs.declared.step.Step.TheVariants as step
use Rattle.scmi_text.specs.declared.step.AgentStep.TheVariants as agent_step
use Rattle.scmi_text.specs.declared.step.PlatformStep.TheVariants as platform_step
use Rattle.scmi_threads.specs.declared.agent_log.AgentLog.{AgentLog}

-- a command but for its token: the agent's next, as of each command that an agent in a thread posts
abbrev pub call_of : Message → Call
call_of m = record { protocol = m.header.protocol; message = m.header.id; payload = m.payload }

-- the steps of a malformed frame that was executed: it is posted, served and collected
abbrev pub malformed_steps : ℕ → ℕ → ℕ → List Step
malformed_steps a len header =
    step.Agent a (agent_step.Malformed len header) ∷ step.Platform a platform_step.Serve
    ∷ step.Agent a agent_step.Collect ∷ []

-- the steps of a command that was executed
abbrev pub command_steps : ℕ → Frame → List Step
command_steps a (frame.Good m) = step.Do a (call_of m) ∷ []
command_steps a (frame.Malformed len header) = malformed_steps a len header

-- the steps of a command whose change the hardware refused with this fault
abbrev pub refusal_steps : ℕ → Fault → Frame → List Step
refusal_steps a fault (frame.Good m) = step.Fail a fault (call_of m) ∷ []
refusal_steps a fault (frame.Malformed len header) = malformed_steps a len header

-- the step in which the hardware reports this
abbrev pub report_steps : Report → List Step
report_steps report = step.Report report ∷ []

-- how many messages an agent took, by its log
abbrev pub taken_by : List AgentLog → ℕ → ℕ
taken_by logs a = elim (slice_get logs (a - 1)) [ None ↦ 0 | Some log ↦ length log.p2a.items ]

-- an agent takes a message, after these agents were sent one, if its log has as many
abbrev pub taking_steps : List AgentLog → List ℕ → ℕ → List Step
taking_steps logs sent a = if nat_lt (count_by (nat_eq a) sent) (taken_by logs a)
    then step.Agent a agent_step.P2a ∷ [] else []

-- the steps of an event, after messages were posted to these agents: a command is posted, served
-- and collected; an advance is one; a message that is posted is a flush, and the agent takes it if
-- its log has it; the restart of an agent is one; a report of the hardware is one
abbrev pub steps_of_event : List AgentLog → List ℕ → Event → List Step
steps_of_event logs sent (event.Command a frame) = command_steps a frame
steps_of_event logs sent (event.CommandFailed a frame fault) = refusal_steps a fault frame
steps_of_event logs sent event.Advance = step.Advance ∷ []
steps_of_event logs sent (event.AdvanceFailed fault) = step.AdvanceFailed fault ∷ []
steps_of_event logs sent (event.Sent a) =
    step.Platform a platform_step.Flush ∷ taking_steps logs sent a
steps_of_event logs sent (event.Restarted a) = step.Restart a ∷ []
steps_of_event logs sent (event.Reported effect) = report_steps (report.Changed effect)
steps_of_event logs sent (event.Promoted place) = report_steps (report.First place)
steps_of_event logs sent (event.Settled clock rate) = report_steps (report.Settled clock rate)

-- the agent to which an event posted a message, if it did
abbrev pub receivers : Event → List ℕ
receivers (event.Sent a) = a ∷ []
receivers _ = []

-- the steps of a history's later events, one after another, after messages were posted to these
-- agents
abbrev pub steps_after : List AgentLog → List ℕ → List Event → List Step
steps_after logs sent [] = []
steps_after logs sent (e ∷ events) =
    steps_of_event logs sent e ++ steps_after logs (sent ++ receivers e) events

-- an agent with this log closes its endpoint if its script did
abbrev pub closing_steps : ℕ → AgentLog → List Step
closing_steps a log = if is_some log.closing then step.Agent a agent_step.Close ∷ [] else []

-- the closes of the agents with these logs, who have the numbers from this one on
abbrev pub closes_from : ℕ → List AgentLog → List Step
closes_from a [] = []
closes_from a (log ∷ logs) = closing_steps a log ++ closes_from (a + 1) logs

-- the steps of a run: those of its history, in order, and then the closes of its agents, which a
-- history does not have
abbrev pub steps_of_run : List Event → List AgentLog → List Step
steps_of_run events logs = steps_after logs [] events ++ closes_from 1 logs
