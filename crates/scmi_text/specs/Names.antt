-- What calls answered, each as one item of a line.
use Rattle.std.specs.Prelude.{ℕ, List, Bool, true, false, Result, Ok, Err}
use Rattle.scmi_link.specs.declared.post_error.PostError.{PostError}
use Rattle.scmi_link.specs.declared.post_error.PostError.TheVariants.{Outstanding, Closed as PostClosed, Full, WellFormed}
use Rattle.scmi_link.specs.declared.closing.Closing.{Closing}
use Rattle.scmi_link.specs.declared.closing.Closing.TheVariants.{Idle, Withdrawn}
use Rattle.scmi_link.specs.declared.close_error.CloseError.{CloseError}
use Rattle.scmi_link.specs.declared.close_error.CloseError.TheVariants.{InService, ReplyWaiting}
use Rattle.scmi_link.specs.declared.served.Served.{Served}
use Rattle.scmi_link.specs.declared.served.Served.TheVariants.{Nothing as ServedNothing, Done}
use Rattle.scmi_link.specs.declared.flushed.Flushed.{Flushed}
use Rattle.scmi_link.specs.declared.flushed.Flushed.TheVariants.{Nothing as FlushedNothing, Waiting, Posted, Closed as FlushedClosed}
use Rattle.scmi_link.specs.declared.shut_error.ShutError.{ShutError}
use Rattle.scmi_link.specs.declared.shut_error.ShutError.TheVariants.{InService as ShutInService, ReplyWaiting as ShutReplyWaiting, NoAgent}
use Rattle.scmi_text.specs.declared.names.TheConstants.{CLOSED, DONE, FULL, IDLE, IN_SERVICE, NO, NOTHING, NO_AGENT, OK, OUTSTANDING, POSTED, REPLY_WAITING, WAITING, WELL_FORMED, WITHDRAWN, YES}

-- why a post was refused
abbrev pub refusal_text : PostError → List ℕ
refusal_text Outstanding = OUTSTANDING.now
refusal_text PostClosed = CLOSED.now
refusal_text Full = FULL.now
refusal_text WellFormed = WELL_FORMED.now

-- what serving an agent did
abbrev pub served_text : Served → List ℕ
served_text ServedNothing = NOTHING.now
served_text Done = DONE.now

-- what came of an outbox
abbrev pub flushed_text : Flushed → List ℕ
flushed_text FlushedNothing = NOTHING.now
flushed_text Waiting = WAITING.now
flushed_text Posted = POSTED.now
flushed_text FlushedClosed = CLOSED.now

-- what an agent's close found
abbrev pub closing_text : Closing → List ℕ
closing_text Idle = IDLE.now
closing_text Withdrawn = WITHDRAWN.now

-- why an agent's end was not closed
abbrev pub close_error_text : CloseError → List ℕ
close_error_text InService = IN_SERVICE.now
close_error_text ReplyWaiting = REPLY_WAITING.now

-- why the platform's side was not closed
abbrev pub shut_error_text : ShutError → List ℕ
shut_error_text ShutInService = IN_SERVICE.now
shut_error_text ShutReplyWaiting = REPLY_WAITING.now
shut_error_text NoAgent = NO_AGENT.now

-- what came of an agent's close
abbrev pub close_text : Result Closing CloseError → List ℕ
close_text (Ok closing) = closing_text closing
close_text (Err error) = close_error_text error

-- what came of the close of the platform's side
abbrev pub shut_text : {A : Type 0} → Result A ShutError → List ℕ
shut_text (Ok done) = OK.now
shut_text (Err error) = shut_error_text error

-- whether there was a pending set to end, or a report was taken over
abbrev pub advanced_text : Bool → List ℕ
advanced_text true = YES.now
advanced_text false = NO.now
