-- What a script leaves once it has closed.
use Rattle.std.specs.Prelude.{◌≡◌, ℕ, Bool, false, List, ◌++◌, Some, None}
use Rattle.std.specs.List.{All, flat_map}
use Rattle.scmi_link.specs.declared.closing.Closing.TheVariants.{Idle}
use Rattle.scmi_link.specs.declared.post_error.PostError.TheVariants as post
use Rattle.scmi_core.specs.Agents.{frames_of}
use Rattle.scmi_core.specs.declared.event.Event.{Event}
use Rattle.scmi_link.specs.Scripts.{up_to_close}
use Rattle.scmi_link.specs.declared.line.Line.{Line}
use Rattle.scmi_link.specs.declared.line.Line.TheVariants as line
use Rattle.scmi_link.specs.declared.order.Order.{Order}
use Rattle.scmi_threads.specs.Parts.{Part}
use Rattle.scmi_threads.specs.ScriptLogs.{Follows}
use Rattle.scmi_threads.specs.declared.agent_log.AgentLog.{AgentLog}

-- the line says that nothing came of its order: a post was refused as closed, polls ran out, or the
-- endpoint was closed already
abbrev pub SaysNothing : Line → Type 0
SaysNothing (line.NotPosted error) = error ≡ post.Closed
SaysNothing line.Limit = Unit {0}
SaysNothing line.UntilLimit = Unit {0}
SaysNothing (line.Close closing) = closing ≡ Idle
SaysNothing _ = ⊥

-- the orders up to the close wrote all that was posted, read and taken, and the commands executed
-- are those that they posted; each further line says that nothing came of its order
pub record IsDoneAtClose (full : Bool) (orders : List Order) (h : List Event) (a : ℕ)
    (log : AgentLog) : Type 0 where
  pub parts : List Part
  pub follows : Follows full false 0 (up_to_close orders) None parts
  pub posted : log.posted.items ≡ flat_map (λ part. part.posted) parts
  pub executed : frames_of a h ≡ flat_map (λ part. part.posted) parts
  pub read : log.read.items ≡ flat_map (λ part. part.read) parts
  pub taken : log.p2a.items ≡ flat_map (λ part. part.taken) parts
  pub further : List Line
  pub lines : log.lines.items ≡ flat_map (λ part. part.lines) parts ++ further
  pub nothing : All SaysNothing further

-- nothing is done after a close that succeeded
abbrev pub EndsAtClose : Bool → List Order → List Event → ℕ → AgentLog → Type 0
EndsAtClose full orders h a log = log.closing ≡ Some Idle → IsDoneAtClose full orders h a log
