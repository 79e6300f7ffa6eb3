-- The lines of agents that run in threads.
use Rattle.std.specs.Prelude.{ℕ, List, [], ◌∷◌, decimal, flat_map}
use Rattle.scmi_io.specs.Filled.{filled}
use Rattle.scmi_link.specs.declared.line.Line.{Line}
use Rattle.scmi_link.specs.declared.line.Line.TheVariants.{Got, Error, Closed, NotPosted, Limit, UntilOk, UntilLimit, P2a, Close, NotClosed}
use Rattle.scmi_text.specs.Words.{words_text}
use Rattle.scmi_text.specs.Names.{refusal_text, closing_text, close_error_text}
use Rattle.scmi_text.specs.StepLine.{frame_text}
use Rattle.scmi_text.specs.declared.lines.TheConstants.{CLOSE, CLOSED, ERROR, GOT, LIMIT, NOT_POSTED, UNTIL_LIMIT, UNTIL_OK}

-- a line of an agent, with its line feed
abbrev pub line_text : ℕ → Line → List ℕ
line_text agent (Got payload) = filled GOT.now (decimal agent ∷ words_text payload.items ∷ [])
line_text agent Error = filled ERROR.now (decimal agent ∷ [])
line_text agent Closed = filled CLOSED.now (decimal agent ∷ [])
line_text agent (NotPosted refusal) =
    filled NOT_POSTED.now (decimal agent ∷ refusal_text refusal ∷ [])
line_text agent Limit = filled LIMIT.now (decimal agent ∷ [])
line_text agent UntilOk = filled UNTIL_OK.now (decimal agent ∷ [])
line_text agent UntilLimit = filled UNTIL_LIMIT.now (decimal agent ∷ [])
line_text agent (P2a frame) = frame_text agent frame
line_text agent (Close closing) = filled CLOSE.now (decimal agent ∷ closing_text closing ∷ [])
line_text agent (NotClosed error) = filled CLOSE.now (decimal agent ∷ close_error_text error ∷ [])

-- lines of an agent in their order
abbrev pub lines_text : ℕ → List Line → List ℕ
lines_text agent lines = flat_map (line_text agent) lines
