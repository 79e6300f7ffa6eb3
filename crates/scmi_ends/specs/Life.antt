-- The lives of an agent, from one restart of it to the next.
use Rattle.std.specs.Prelude.{◌≡◌, ◌⊎◌, ℕ, Bool, true, false, List, length, drop, take, Option}
use Rattle.scmi_codec.specs.declared.frame.Frame.{Frame}
use Rattle.scmi_link.specs.Calls.{Collects}
use Rattle.scmi_link.specs.Gathered.{IsAllButLast, IsPrefixOf}
use Rattle.scmi_link.specs.View.{CallerView, IsOutstanding, knows_close}
use Rattle.scmi_link.specs.declared.collected.Collected.{Collected}
use Rattle.scmi_plan.specs.Board.{Board}
use Rattle.scmi_core.specs.Agents.{frames_of, answers_to}
use Rattle.scmi_core.specs.declared.event.Event.{Event}
use Rattle.scmi_ends.specs.AgentView.{AgentView}
use Rattle.scmi_ends.specs.Poll.{Receives}

-- an agent knows whether its end of A2P has a command outstanding
pub record KnowsOutstanding (waits : Bool) (v : CallerView) : Type 0 where
  pub outstanding : waits ≡ true → IsOutstanding v
  pub all_read : waits ≡ false → v.left ≡ false → length v.posted ≡ length v.read
  pub left : v.left ≡ true → knows_close v ≡ true

-- an agent has looked once at each of its ends, and thrown away what was there
pub record Clears (old new : AgentView) : Type 0 where
  pub answer : Collected
  pub collects : Collects old.caller answer new.caller
  pub message : Option Frame
  pub receives : Receives old.callee message new.callee
  pub same : new ≡ record old { token = new.token; caller = new.caller; callee = new.callee }

-- an agent begins its next life: the answer to each command of the life before was read, or the
-- last was left by a close, so that no reply to that life is still to come; its first token is 0
pub record BeginsAgain (old new : AgentView) : Type 0 where
  pub clears : Clears old new
  pub token : new.token ≡ 0
  pub none_outstanding : ¬ (IsOutstanding new.caller)
  pub all_read : new.caller.left ≡ false → length new.caller.posted ≡ length new.caller.read

-- an agent can't begin its next life yet, since a command of this one is outstanding
pub record StillWaits (old new : AgentView) : Type 0 where
  pub clears : Clears old new
  pub token : new.token ≡ old.token
  pub outstanding : IsOutstanding new.caller

-- items j to k - 1 of a list, counted from 0
abbrev pub between : {T : Type 0} → ℕ → ℕ → List T → List T
between j k xs = drop j (take k xs)

-- the life of agent a that posted its commands j to k - 1, counted from 0, agrees with the history
-- by itself
pub record LifeAgrees (board : Board) (h : List Event) (a j k : ℕ)
    (caller : CallerView) : Type 0 where
  -- its commands that were executed are those that it posted, in order, each once, at most the last
  -- left out
  pub executed : (between j k (frames_of a h) ≡ between j k caller.posted)
      ⊎ IsAllButLast (between j k (frames_of a h)) (between j k caller.posted)
  -- each reply that it read is the answer at the place of its own command
  pub replies : IsPrefixOf (between j k caller.read) (between j k (answers_to board a h))
