-- The step of what comes before its payload words, and of these.
use Rattle.std.specs.Prelude.{ℕ, List}
use Rattle.scmi_codec.specs.Header.{header_of}
use Rattle.scmi_codec.specs.declared.message.Message.{Message}
use Rattle.scmi_text.specs.declared.step.Call.{Call as CallOf}
use Rattle.scmi_text.specs.declared.step.AgentStep.TheVariants as agent
use Rattle.scmi_text.specs.declared.step.Step.{Step}
use Rattle.scmi_text.specs.declared.step.Step.TheVariants as step
use Rattle.scmi_text.specs.declared.step_head.Head.{Head}
use Rattle.scmi_text.specs.declared.step_head.Head.TheVariants.{Do, Call, Raw, Malformed, Collect, P2a, Close, Platform, Advance, Fail, AdvanceFailed, Report, Restart}

-- the command of a protocol, a message id and these payload words
abbrev pub call_with : ℕ → ℕ → List ℕ → CallOf
call_with protocol id words =
    record { protocol = protocol; message = id; payload = record { items = words } }

-- the message of a header word and these payload words
abbrev pub raw_with : ℕ → List ℕ → Message
raw_with header words = record { header = header_of header; payload = record { items = words } }

-- the step of a head and these payload words
abbrev pub step_with : Head → List ℕ → Step
step_with (Do a protocol id) words = step.Do a (call_with protocol id words)
step_with (Call a protocol id) words = step.Agent a (agent.Call (call_with protocol id words))
step_with (Raw a header) words = step.Agent a (agent.Raw (raw_with header words))
step_with (Malformed a len header) words = step.Agent a (agent.Malformed len header)
step_with (Collect a) words = step.Agent a agent.Collect
step_with (P2a a) words = step.Agent a agent.P2a
step_with (Close a) words = step.Agent a agent.Close
step_with (Platform a call) words = step.Platform a call
step_with Advance words = step.Advance
step_with (Fail a fault protocol id) words = step.Fail a fault (call_with protocol id words)
step_with (AdvanceFailed fault) words = step.AdvanceFailed fault
step_with (Report report) words = step.Report report
step_with (Restart a) words = step.Restart a
