-- What a run's outcome shows of an agent, in the words of its log.
use Rattle.std.specs.Prelude.{◌≡◌, ◌⊎◌, ℕ, List, [], length, map, Some, None}
use Rattle.scmi_codec.specs.declared.frame.Frame.TheVariants.{Good}
use Rattle.scmi_link.specs.Gathered.{IsAllButLast, IsPrefixOf}
use Rattle.scmi_link.specs.declared.closing.Closing.TheVariants.{Idle, Withdrawn}
use Rattle.scmi_plan.specs.Board.{Board}
use Rattle.scmi_core.specs.Agents.{frames_of, answers_to}
use Rattle.scmi_core.specs.History.{delivered_messages}
use Rattle.scmi_core.specs.declared.event.Event.{Event}
use Rattle.scmi_link.specs.Lines.{messages_of, first_closing}
use Rattle.scmi_ends.specs.AgentView.{AgentView}
use Rattle.scmi_ends.specs.Headline.{IsAllMade}
use Rattle.scmi_threads.specs.declared.agent_log.AgentLog.{AgentLog}
use Rattle.scmi_threads.specs.Closes.{IsClosedAs}
use Rattle.scmi_threads.specs.Tokens.{command_token, first_tokens}

-- the log of an agent that has done nothing
pub record IsEmptyLog (log : AgentLog) : Type 0 where
  pub posted : log.posted.items ≡ []
  pub read : log.read.items ≡ []
  pub p2a : log.p2a.items ≡ []
  pub lines : log.lines.items ≡ []
  pub closing : log.closing ≡ None
  pub stopped : log.stopped ≡ None
  pub reply_looks : log.reply_looks ≡ 0
  pub message_looks : log.message_looks ≡ 0

-- both logs count the same polls
pub record HasSameLooks (old new : AgentLog) : Type 0 where
  pub replies : new.reply_looks ≡ old.reply_looks
  pub messages : new.message_looks ≡ old.message_looks

-- both logs say the same
pub record IsSameLog (old new : AgentLog) : Type 0 where
  pub posted : new.posted.items ≡ old.posted.items
  pub read : new.read.items ≡ old.read.items
  pub p2a : new.p2a.items ≡ old.p2a.items
  pub lines : new.lines.items ≡ old.lines.items
  pub closing : new.closing ≡ old.closing
  pub stopped : new.stopped ≡ old.stopped
  pub looks : HasSameLooks old new

-- the log says what the agent has done at its endpoints
pub record IsLogOf (agent : AgentView) (log : AgentLog) : Type 0 where
  pub posted : log.posted.items ≡ agent.caller.posted
  pub read : log.read.items ≡ agent.caller.read
  pub p2a : log.p2a.items ≡ agent.callee.taken
  pub closing : IsClosedAs log.closing agent.caller
  pub reply_looks : log.reply_looks ≡ agent.caller.collects
  pub message_looks : log.message_looks ≡ agent.callee.takes

-- the log of agent a agrees with the history
pub record LogHeadline (board : Board) (h : List Event) (a : ℕ) (log : AgentLog) : Type 0 where
  -- the commands executed are those posted, in order, each once, at most the last left out
  pub executed : (frames_of a h ≡ log.posted.items) ⊎ IsAllButLast (frames_of a h) log.posted.items
  -- each answer that was read is the one at that command's place
  pub replies : IsPrefixOf log.read.items (answers_to board a h)
  -- a command that was withdrawn was not executed; each other one was, and its answer was read
  pub withdrawn : log.closing ≡ Some Withdrawn → IsAllButLast (frames_of a h) log.posted.items
      × (log.read.items ≡ answers_to board a h)
  -- after a close with nothing outstanding no command was given up: each was executed, and its
  -- answer was read
  pub idle : log.closing ≡ Some Idle
      → (frames_of a h ≡ log.posted.items) × (log.read.items ≡ answers_to board a h)
  -- the messages that were taken are those delivered, at most the last left out
  pub taken : (log.p2a.items ≡ map Good (delivered_messages board a h))
      ⊎ IsAllButLast log.p2a.items (map Good (delivered_messages board a h))
  -- what was made for the agent is what it took, then at most one message not taken, then its
  -- outbox
  pub made : IsAllMade board h a log.p2a.items
  -- the lines show the messages that were taken
  pub messages : messages_of log.lines.items ≡ log.p2a.items
  -- the lines show how the end was closed first
  pub closing : log.closing ≡ first_closing log.lines.items
  -- the commands have the tokens from 0 on, modulo 1,024, type 0 and reserved bits 0
  pub tokens : map command_token log.posted.items ≡ first_tokens (length log.posted.items)
