-- What was read, as a number for C.
use Rattle.std.specs.Prelude.{ℕ, Result, Ok, Err}
use Rattle.scmi_agent.specs.declared.error.ReadError.{ReadError}
use Rattle.scmi_agent.specs.declared.error.ReadError.TheVariants.{NotPosted, Nothing, ChannelError, Malformed, Foreign, WrongWords, UnknownStatus}
use Rattle.scmi_agent_c.specs.declared.code.TheConstants as code

-- the number of an error
abbrev pub error_code : ReadError → ℕ
error_code NotPosted = code.NOT_POSTED
error_code Nothing = code.NOTHING
error_code ChannelError = code.CHANNEL_ERROR
error_code Malformed = code.MALFORMED
error_code Foreign = code.FOREIGN
error_code WrongWords = code.WRONG_WORDS
error_code UnknownStatus = code.UNKNOWN_STATUS

-- the number of what was read, or of why nothing was
abbrev pub read_code : {C : Type 0} → Result C ReadError → ℕ
read_code (Ok x) = code.DONE
read_code (Err e) = error_code e
