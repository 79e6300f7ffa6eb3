-- What the calls that carry out an order leave.
use Rattle.std.specs.Prelude.{◌≡◌, ◌<◌, ℕ, Bool, true, false, ◌||◌, List, [], ◌∷◌, ◌++◌, length, map, Option, Some, None, Result, Ok, Err}
use Rattle.std.specs.List.{All}
use Rattle.scmi_codec.specs.declared.message.Message.{Message}
use Rattle.scmi_codec.specs.declared.frame.Frame.{Frame}
use Rattle.scmi_codec.specs.declared.frame.Frame.TheVariants.{Good}
use Rattle.scmi_codec.specs.declared.frame.Answer.{Answer}
use Rattle.scmi_codec.specs.declared.frame.Answer.TheVariants.{Reply, ChannelError}
use Rattle.scmi_link.specs.View.{CallerView}
use Rattle.scmi_link.specs.declared.post_error.PostError.{PostError}
use Rattle.scmi_link.specs.declared.post_error.PostError.TheVariants as post
use Rattle.scmi_plan.specs.declared.agent_channel.TheConstants.{LEAST_CHANNEL_WORDS}
use Rattle.scmi_link.specs.Scripts.{is_close}
use Rattle.scmi_link.specs.declared.line.Line.{Line}
use Rattle.scmi_link.specs.declared.line.Line.TheVariants as line
use Rattle.scmi_link.specs.declared.order.Order.{Order}
use Rattle.scmi_link.specs.declared.order.Order.TheVariants as order
use Rattle.scmi_ends.specs.Poll.{more_calls}
use Rattle.scmi_threads.specs.Parts.{Part, AreLooksOf, HasState, Writes, state_commands}
use Rattle.scmi_threads.specs.declared.agent_log.AgentLog.{AgentLog}
use Rattle.scmi_threads.specs.declared.limits.TheConstants.{TURNS}
use Rattle.scmi_threads.specs.declared.stop.Stop.{Stop}
use Rattle.scmi_threads.specs.declared.stop.Stop.TheVariants as stop

-- what a command is answered: a reply, or a channel error if it has more words than the shortest
-- channel
abbrev pub IsAnswerTo : Frame → Answer → Type 0
IsAnswerTo frame (Reply m) = Unit {0}
IsAnswerTo (Good m) ChannelError = LEAST_CHANNEL_WORDS < length m.payload.items
IsAnswerTo _ _ = ⊥

-- each answer is one to the command at its place
abbrev pub AreAnswersTo : List Frame → List Answer → Type 0
AreAnswersTo frames [] = Unit {0}
AreAnswersTo [] (answer ∷ answers) = Unit {0}
AreAnswersTo (frame ∷ frames) (answer ∷ answers) = IsAnswerTo frame answer
    × AreAnswersTo frames answers

-- nothing has disturbed the agent: it was notified of no close, and each answer that it read is one
-- to its command
pub record IsUndisturbed (caller : CallerView) : Type 0 where
  pub told : caller.told ≡ false
  pub answers : AreAnswersTo caller.posted caller.read

-- an answer was read for each frame that was posted
abbrev pub IsAtRest : AgentLog → Type 0
IsAtRest log = length log.posted.items ≡ length log.read.items

-- what the calls of a call leave as it was, beside the lines
pub record LeavesRest (old new : CallerView) (before after : AgentLog) : Type 0 where
  pub taken : after.p2a.items ≡ before.p2a.items
  pub message_looks : after.message_looks ≡ before.message_looks
  pub stopped : after.stopped ≡ before.stopped
  pub closed : new.closed ≡ old.closed

-- a wait for the answer to a command, by its line: a reply or a channel error was read, or nothing
abbrev pub HasAwaited : Frame → Line → List Answer → List Answer → Type 0
HasAwaited command (line.Got words) old new = (reply : Message) × (words ≡ reply.payload)
    × (new ≡ old ++ Reply reply ∷ [])
HasAwaited command line.Error old new = IsAnswerTo command ChannelError
    × (new ≡ old ++ ChannelError ∷ [])
HasAwaited command line.Limit old new = new ≡ old
HasAwaited command _ old new = ⊥

-- how many polls a wait for an answer had, by its line: TURNS if they ran out, else those of a wait
-- that was answered
abbrev pub AreLooksBy : Line → ℕ → Type 0
AreLooksBy line.Limit looks = looks ≡ TURNS
AreLooksBy _ looks = AreLooksOf 1 looks

-- the log counts the polls of a wait that ended in this line
pub record HasWaited (line : Line) (before after : AgentLog) : Type 0 where
  pub looks : ℕ
  pub many : AreLooksBy line looks
  pub counted : after.reply_looks ≡ more_calls looks before.reply_looks

-- what a post can be refused for: the script has closed, or it has not and the kind of channel may
-- have no place
abbrev pub IsRefusal : Bool → Bool → PostError → Type 0
IsRefusal full closed post.Closed = closed ≡ true
IsRefusal full closed post.Full = (closed ≡ false) × (full ≡ true)
IsRefusal full closed _ = ⊥

-- a call of a command, by its line: it was refused, without a poll, or the script had not closed,
-- and it was posted and waited for
abbrev pub HasAsked : Bool → Bool → Frame → Line → AgentLog → AgentLog → Type 0
HasAsked full closed command (line.NotPosted error) before after = IsRefusal full closed error
    × (after.posted.items ≡ before.posted.items) × (after.read.items ≡ before.read.items)
    × (after.reply_looks ≡ before.reply_looks)
HasAsked full closed command line before after =
    (closed ≡ false) × (after.posted.items ≡ before.posted.items ++ command ∷ [])
    × HasAwaited command line before.read.items after.read.items × HasWaited line before after

-- the line reports a reply
abbrev pub IsGot : Line → Type 0
IsGot (line.Got words) = Unit {0}
IsGot _ = ⊥

-- the line reports a reply with status 0 and this state
abbrev pub ShowsState : ℕ → Line → Type 0
ShowsState state (line.Got words) = words.items ≡ 0 ∷ state ∷ []
ShowsState state _ = ⊥

-- how a call ends, by its line
abbrev pub ending : Line → Result (Unit {0}) Stop
ending line.Limit = Err stop.Limit
ending _ = Ok tt

-- this many calls asked for the state of a domain, none of them after the script's close, and none
-- of the replies had the state
pub record HasAskedFor (closed : Bool) (domain state count : ℕ)
    (before after : AgentLog) : Type 0 where
  pub others : List Message
  pub many : length others ≡ count
  pub unclosed : closed ≡ true → count ≡ 0
  pub none_has_it : All (λ reply. ¬ (HasState state reply)) others
  pub posted : after.posted.items
      ≡ before.posted.items ++ state_commands (length before.posted.items) domain count
  pub read : after.read.items ≡ before.read.items ++ map Reply others
  pub looks : ℕ
  pub of_each : AreLooksOf count looks
  pub counted : after.reply_looks ≡ more_calls looks before.reply_looks

-- why the script ends, by whether the state was seen
abbrev pub stop_of_seen : Result Bool Stop → Option Stop
stop_of_seen (Ok true) = None
stop_of_seen (Ok false) = Some stop.Limit
stop_of_seen (Err why) = Some why

-- the lines of an order to wait for a state, by whether the state was seen
abbrev pub lines_of_seen : Result Bool Stop → List Line
lines_of_seen (Ok true) = line.UntilOk ∷ []
lines_of_seen (Ok false) = line.UntilLimit ∷ []
lines_of_seen (Err why) = []

-- what asking for a state until it is seen leaves, without the line
pub record HasLooked (full closed : Bool) (domain state : ℕ) (seen : Result Bool Stop)
    (before after : AgentLog) : Type 0 where
  pub part : Part
  pub writes : Writes full closed (length before.posted.items) (order.Until domain state)
      (stop_of_seen seen) part
  pub posted : after.posted.items ≡ before.posted.items ++ part.posted
  pub read : after.read.items ≡ before.read.items ++ part.read
  pub lines : part.lines ≡ lines_of_seen seen
  pub counted : after.reply_looks ≡ more_calls part.reply_looks before.reply_looks

-- why an order ended the script, if it did
abbrev pub stop_of : Result (Unit {0}) Stop → Option Stop
stop_of (Ok done) = None
stop_of (Err why) = Some why

-- what the calls that take a message leave as it was
pub record IsUnmoved (old new : CallerView) (before after : AgentLog) : Type 0 where
  pub posted : after.posted.items ≡ before.posted.items
  pub read : after.read.items ≡ before.read.items
  pub stopped : after.stopped ≡ before.stopped
  pub closed : new.closed ≡ old.closed
  pub reply_looks : after.reply_looks ≡ before.reply_looks

-- a message was taken, by an end that has not closed, and has its line
pub record TakesOne (closed : Bool) (before after : AgentLog) : Type 0 where
  pub unclosed : closed ≡ false
  pub message : Frame
  pub taken : after.p2a.items ≡ before.p2a.items ++ message ∷ []
  pub lines : after.lines.items ≡ before.lines.items ++ line.P2a message ∷ []

-- the polls of a wait for a message, by how it ended: those of one that was answered, TURNS if they
-- ran out, none if memory was refused
abbrev pub AreLooksFor : Result (Unit {0}) Stop → ℕ → Type 0
AreLooksFor (Ok done) looks = AreLooksOf 1 looks
AreLooksFor (Err stop.Limit) looks = looks ≡ TURNS
AreLooksFor (Err stop.Memory) looks = looks ≡ 0

-- the log counts the polls of a wait for a message that ended so
pub record HasLookedFor (result : Result (Unit {0}) Stop) (before after : AgentLog) : Type 0 where
  pub looks : ℕ
  pub many : AreLooksFor result looks
  pub counted : after.message_looks ≡ more_calls looks before.message_looks

-- one more message was taken, or none: the polls ran out, or memory was refused
abbrev pub HasTaken : Bool → Result (Unit {0}) Stop → AgentLog → AgentLog → Type 0
HasTaken closed (Ok done) before after = TakesOne closed before after
HasTaken closed (Err stop.Limit) before after = (after.p2a.items ≡ before.p2a.items)
    × (after.lines.items ≡ before.lines.items ++ line.Limit ∷ [])
HasTaken closed (Err stop.Memory) before after = (after.p2a.items ≡ before.p2a.items)
    × (after.lines.items ≡ before.lines.items)

-- the log has this part more
pub record HasMore (part : Part) (before after : AgentLog) : Type 0 where
  pub posted : after.posted.items ≡ before.posted.items ++ part.posted
  pub read : after.read.items ≡ before.read.items ++ part.read
  pub taken : after.p2a.items ≡ before.p2a.items ++ part.taken
  pub lines : after.lines.items ≡ before.lines.items ++ part.lines
  pub reply_looks : after.reply_looks ≡ more_calls part.reply_looks before.reply_looks
  pub message_looks : after.message_looks ≡ more_calls part.message_looks before.message_looks

-- an order was carried out, and wrote its part
pub record HasDone (full : Bool) (order : Order) (stopped : Option Stop) (old new : CallerView)
    (before after : AgentLog) : Type 0 where
  pub part : Part
  pub writes : Writes full old.closed (length before.posted.items) order stopped part
  pub more : HasMore part before after
  pub closed : stopped ≡ None → new.closed ≡ (is_close order || old.closed)
  pub not_stopped : after.stopped ≡ before.stopped
