-- What a step posts.
use Rattle.std.specs.Prelude.{ℕ, ◌%◌, Option, Some, None}
use Rattle.scmi_codec.specs.Command.{protocol_header}
use Rattle.scmi_codec.specs.Header.{HeaderFields}
use Rattle.scmi_codec.specs.declared.header.TheConstants.{TOKENS}
use Rattle.scmi_codec.specs.declared.message.Message.{Message}
use Rattle.scmi_text.specs.declared.step.Call.{Call}
use Rattle.scmi_text.specs.declared.step.Step.{Step}
use Rattle.scmi_text.specs.declared.step.Step.TheVariants as step
use Rattle.scmi_text.specs.declared.step.AgentStep.TheVariants as agent_step

-- the message of a call, with token 0
abbrev pub message_of_call : Call → Message
message_of_call call =
    record { header = protocol_header call.protocol 0 call.message; payload = call.payload }

-- the message that a step posts, its token aside
abbrev pub message_of : Step → Option Message
message_of (step.Do a call) = Some (message_of_call call)
message_of (step.Fail a fault call) = Some (message_of_call call)
message_of (step.Agent a (agent_step.Call call)) = Some (message_of_call call)
message_of (step.Agent a (agent_step.Raw message)) = Some message
message_of _ = None

-- the same header with this token, if it is known
abbrev pub with_token : Option ℕ → HeaderFields → HeaderFields
with_token None h = h
with_token (Some token) h = record h { token = token % TOKENS }
