-- The lines of a script that runs on one thread.
use Rattle.std.specs.Prelude.{ℕ, List, [], ◌∷◌, decimal, Option, Some, None}
use Rattle.scmi_codec.specs.declared.frame.Frame.{Frame}
use Rattle.scmi_codec.specs.declared.frame.Frame.TheVariants.{Good, Malformed}
use Rattle.scmi_codec.specs.declared.frame.Answer.TheVariants.{Reply, Released, ChannelError}
use Rattle.scmi_link.specs.declared.collected.Collected.{Collected}
use Rattle.scmi_link.specs.declared.collected.Collected.TheVariants.{Nothing, Got, Closed as CollectedClosed}
use Rattle.scmi_io.specs.Filled.{filled}
use Rattle.scmi_text.specs.Words.{message_text}
use Rattle.scmi_text.specs.Names.{refusal_text, served_text, flushed_text, close_text, shut_text, advanced_text}
use Rattle.scmi_text.specs.declared.step_line.StepLine.{StepLine}
use Rattle.scmi_text.specs.declared.step_line.StepLine.TheVariants.{Token, Posted, NotPosted, Served, Collected as StepCollected, Advanced, AdvanceFailed, Reported, Flushed, P2a, Closed, Shut, Restarted, Trace}
use Rattle.scmi_text.specs.declared.lines.TheConstants.{ADVANCED, ADVANCE_FAILED, CLOSE, CLOSED, ERROR, FLUSHED, NOT_ANSWERED, NOT_POSTED, NO_P2A, P2A, P2A_ERROR, POSTED, RELEASED, REPLY, REPORTED, RESTARTED, SERVED, SHUT, TOKEN, TRACE}

-- what an agent collected, as a line
abbrev pub collected_text : ℕ → Collected → List ℕ
collected_text agent Nothing = filled NOT_ANSWERED.now (decimal agent ∷ [])
collected_text agent (Got (Reply message)) =
    filled REPLY.now (decimal agent ∷ message_text message ∷ [])
collected_text agent (Got Released) = filled RELEASED.now (decimal agent ∷ [])
collected_text agent (Got ChannelError) = filled ERROR.now (decimal agent ∷ [])
collected_text agent CollectedClosed = filled CLOSED.now (decimal agent ∷ [])

-- a P2A frame, as a line
abbrev pub frame_text : ℕ → Frame → List ℕ
frame_text agent (Good message) = filled P2A.now (decimal agent ∷ message_text message ∷ [])
frame_text agent (Malformed len header) = filled P2A_ERROR.now (decimal agent ∷ [])

-- the P2A frame that was taken, if there was one, as a line
abbrev pub p2a_text : ℕ → Option Frame → List ℕ
p2a_text agent None = filled NO_P2A.now (decimal agent ∷ [])
p2a_text agent (Some frame) = frame_text agent frame

-- a line of a run, with its line feed
abbrev pub step_text : StepLine → List ℕ
step_text (Token agent token) = filled TOKEN.now (decimal agent ∷ decimal token ∷ [])
step_text (Posted agent) = filled POSTED.now (decimal agent ∷ [])
step_text (NotPosted agent refusal) =
    filled NOT_POSTED.now (decimal agent ∷ refusal_text refusal ∷ [])
step_text (Served agent served) = filled SERVED.now (decimal agent ∷ served_text served ∷ [])
step_text (StepCollected agent collected) = collected_text agent collected
step_text (Advanced more) = filled ADVANCED.now (advanced_text more ∷ [])
step_text (AdvanceFailed more) = filled ADVANCE_FAILED.now (advanced_text more ∷ [])
step_text (Reported taken) = filled REPORTED.now (advanced_text taken ∷ [])
step_text (Flushed agent flushed) = filled FLUSHED.now (decimal agent ∷ flushed_text flushed ∷ [])
step_text (P2a agent frame) = p2a_text agent frame
step_text (Closed agent closing) = filled CLOSE.now (decimal agent ∷ close_text closing ∷ [])
step_text (Shut agent closing) = filled SHUT.now (decimal agent ∷ shut_text closing ∷ [])
step_text (Restarted agent) = filled RESTARTED.now (decimal agent ∷ [])
step_text (Trace events) = filled TRACE.now (decimal events ∷ [])
