-- The steps that lines with names encode.
use Rattle.std.specs.Prelude.{ℕ, ◌&&◌, nat_le, if◌then◌else◌, List, [], ◌∷◌, Option, Some, None}
use Rattle.std.specs.Option.{option_map}
use Rattle.scmi_board.specs.Items.{◌>>=◌}
use Rattle.scmi_board.specs.Number.{number_of}
use Rattle.scmi_codec.specs.declared.fault.Fault.TheVariants.{HardwareError}
use Rattle.scmi_plan.specs.Board.{Board}
use Rattle.scmi_codec.specs.Fault.{fault_in, named_statuses}
use Rattle.scmi_text.specs.StepHead.{call_with, raw_with}
use Rattle.scmi_text.specs.StepText.{step_forms}
use Rattle.scmi_text.specs.WordRow.{form_in}
use Rattle.scmi_text.specs.declared.step.Call.{Call}
use Rattle.scmi_text.specs.declared.step.AgentStep.{AgentStep}
use Rattle.scmi_text.specs.declared.step.AgentStep.TheVariants as agent
use Rattle.scmi_text.specs.declared.step.Step.{Step}
use Rattle.scmi_text.specs.declared.step.Step.TheVariants as step
use Rattle.scmi_text.specs.declared.step_form.AgentForm.{AgentForm}
use Rattle.scmi_text.specs.declared.step_form.AgentForm.TheVariants as form
use Rattle.scmi_text.specs.declared.step_form.CommandForm.{CommandForm}
use Rattle.scmi_text.specs.declared.step_form.CommandForm.TheVariants as command
use Rattle.scmi_text.specs.declared.step_form.StepForm.{StepForm}
use Rattle.scmi_text.specs.declared.step_form.StepForm.TheVariants as first
use Rattle.scmi_live.specs.Messages.{id_of, message_named, protocol_of}
use Rattle.scmi_live.specs.Names.{number_from, or_named}
use Rattle.scmi_live.specs.Payload.{numbers, payload_meant}
use Rattle.scmi_live.specs.Reports.{report_meant}

-- the agent that an item encodes, on a board with this number of agents
abbrev pub agent_of : Board → ℕ → List ℕ → Option ℕ
agent_of board agents item =
    or_named (number_of 32 item) (number_from 1 item board.agents) >>= λ number. if nat_le 1 number
    && nat_le number agents then Some number else None

-- the command with a payload that items encode
abbrev pub call_of_message : Board → ℕ → ℕ → List (List ℕ) → Option Call
call_of_message board protocol id items =
    option_map (call_with protocol id) (payload_meant board protocol id items)

-- the command of a protocol, whose message is before the items
abbrev pub call_of_protocol : Board → ℕ → List (List ℕ) → Option Call
call_of_protocol board protocol [] = None
call_of_protocol board protocol (message ∷ items) =
    id_of protocol message >>= λ id. call_of_message board protocol id items

-- the command whose message is the first item
abbrev pub call_of_name : Board → List ℕ → List (List ℕ) → Option Call
call_of_name board name items =
    message_named name >>= λ ids. call_of_message board ids.0 ids.1 items

-- by the protocol, if the first item encodes one
abbrev pub call_by : Board → Option ℕ → List ℕ → List (List ℕ) → Option Call
call_by board (Some protocol) first items = call_of_protocol board protocol items
call_by board None first items = call_of_name board first items

-- the command that items encode
abbrev pub call_of : Board → List (List ℕ) → Option Call
call_of board [] = None
call_of board (first ∷ items) = call_by board (protocol_of first) first items

-- H W..
abbrev pub raw_of : List (List ℕ) → Option AgentStep
raw_of [] = None
raw_of (header ∷ items) = number_of 32 header
    >>= λ word. option_map (λ words. agent.Raw (raw_with word words)) (numbers items)

-- LENGTH H
abbrev pub malformed_of : List (List ℕ) → Option AgentStep
malformed_of (len ∷ header ∷ []) = number_of 32 len
    >>= λ size. option_map (λ word. agent.Malformed size word) (number_of 32 header)
malformed_of items = None

-- a status, and a command beside hardware that refuses each change with it
abbrev pub refused_of : Board → ℕ → List (List ℕ) → Option Step
refused_of board a [] = None
refused_of board a (status ∷ items) = fault_in status named_statuses
    >>= λ fault. option_map (λ call. step.Fail a fault call) (call_of board items)

-- nothing more
abbrev pub alone : {A : Type 0} → A → List (List ℕ) → Option A
alone value [] = Some value
alone value (item ∷ items) = None

-- what an agent does with a command
abbrev pub command_behind : Board → CommandForm → ℕ → List (List ℕ) → Option Step
command_behind board command.Do a items = option_map (λ call. step.Do a call) (call_of board items)
command_behind board command.Call a items =
    option_map (λ call. step.Agent a (agent.Call call)) (call_of board items)
command_behind board command.Fail a items =
    option_map (λ call. step.Fail a HardwareError call) (call_of board items)
command_behind board command.Refuse a items = refused_of board a items

-- what an agent does, by its form and the items after the agent
abbrev pub step_behind : Board → AgentForm → ℕ → List (List ℕ) → Option Step
step_behind board (form.Command command) a items = command_behind board command a items
step_behind board form.Raw a items = option_map (λ made. step.Agent a made) (raw_of items)
step_behind board form.Malformed a items =
    option_map (λ made. step.Agent a made) (malformed_of items)
step_behind board form.Collect a items = alone (step.Agent a agent.Collect) items
step_behind board form.P2a a items = alone (step.Agent a agent.P2a) items
step_behind board form.Close a items = alone (step.Agent a agent.Close) items
step_behind board (form.Platform call) a items = alone (step.Platform a call) items
step_behind board form.Restart a items = alone (step.Restart a) items

-- the step of a form, an agent, and the items after it, on a board with this number of agents
abbrev pub step_of_agent : Board → ℕ → AgentForm → List (List ℕ) → Option Step
step_of_agent board agents form [] = None
step_of_agent board agents form (who ∷ items) =
    agent_of board agents who >>= λ a. step_behind board form a items

-- the step of a form, and of the items after its word; a line `advance` has no name in it
abbrev pub step_of_form : Board → ℕ → StepForm → List (List ℕ) → Option Step
step_of_form board agents first.Advance items = None
step_of_form board agents first.Report items =
    option_map (λ report. step.Report report) (report_meant board items)
step_of_form board agents (first.Of form) items = step_of_agent board agents form items

-- the step of items, of which the first is the word of a form, on a board with this number of
-- agents
abbrev pub named_step : Board → ℕ → List (List ℕ) → Option Step
named_step board agents [] = None
named_step board agents (word ∷ items) =
    form_in word step_forms >>= λ form. step_of_form board agents form items
