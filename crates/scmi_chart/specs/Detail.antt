-- Messages in hexadecimal, which a reader sees who points at a mark.
use Rattle.std.specs.Prelude.{ℕ, List, [], ◌∷◌, ◌++◌, decimal, Option, Some, None}
use Rattle.scmi_codec.specs.Header.{header_word}
use Rattle.scmi_codec.specs.declared.frame.Answer.{Answer}
use Rattle.scmi_codec.specs.declared.frame.Answer.TheVariants.{Reply}
use Rattle.scmi_codec.specs.declared.message.Message.{Message}
use Rattle.scmi_io.specs.Filled.{filled}
use Rattle.scmi_text.specs.declared.step.Step.{Step}
use Rattle.scmi_text.specs.declared.step.Step.TheVariants as step
use Rattle.scmi_text.specs.declared.step.AgentStep.TheVariants as agent_step
use Rattle.scmi_chart.specs.Words.{hex_text, words_text}
use Rattle.scmi_chart.specs.declared.detail.TheConstants.{HEADER, LENGTH, WORDS}
use Rattle.scmi_chart.specs.Posted.{message_of, with_token}

-- a header word
abbrev pub header_detail : ℕ → List ℕ
header_detail header = filled HEADER.now (hex_text header ∷ [])

-- payload words, if there are any
abbrev pub words_detail : List ℕ → List ℕ
words_detail [] = []
words_detail (word ∷ words) = filled WORDS.now (words_text (word ∷ words) ∷ [])

-- the header word and the payload words of a message
abbrev pub message_detail : Message → List ℕ
message_detail m = header_detail (header_word m.header) ++ words_detail m.payload.items

-- those of an answer; nothing of one without a message
abbrev pub answer_detail : Answer → List ℕ
answer_detail (Reply m) = message_detail m
answer_detail _ = []

-- the header and the length of a malformed frame
unfoldable pub malformed_detail : ℕ → ℕ → List ℕ
malformed_detail length header = header_detail header ++ filled LENGTH.now (decimal length ∷ [])

-- those of a message that is posted with this token, if there is a message
abbrev pub posted_detail : Option ℕ → Option Message → List ℕ
posted_detail token None = []
posted_detail token (Some m) = message_detail (record m { header = with_token token m.header })

-- those of what a step posts with this token, if it is known
abbrev pub step_detail : Step → Option ℕ → List ℕ
step_detail (step.Agent a (agent_step.Malformed length header)) token =
    malformed_detail length header
step_detail s token = posted_detail token (message_of s)
