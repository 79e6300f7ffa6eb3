-- What flushing an agent's outbox leaves.
use Rattle.std.specs.Prelude.{◌≡◌, ◌⊎◌, ℕ, ◌-◌, ◌<◌, Bool, false, List, [], ◌∷◌, ◌++◌, length, slice_set, slice_get, Some}
use Rattle.scmi_codec.specs.declared.frame.Frame.TheVariants.{Good}
use Rattle.scmi_codec.specs.declared.message.Message.{Message}
use Rattle.scmi_link.specs.View.{CallerView, IsOutstanding, knows_close, one_more}
use Rattle.scmi_link.specs.Calls.{IsRefused, FindsNoPlace, Collects}
use Rattle.scmi_link.specs.declared.collected.Collected.{Collected}
use Rattle.scmi_plan.specs.Board.{Board}
use Rattle.scmi_core.specs.History.{outbox}
use Rattle.scmi_core.specs.declared.event.Event.{Event}
use Rattle.scmi_core.specs.declared.event.Event.TheVariants.{Sent}
use Rattle.scmi_link.specs.declared.flushed.Flushed.{Flushed}
use Rattle.scmi_link.specs.declared.flushed.Flushed.TheVariants as flushed
use Rattle.scmi_ends.specs.ControllerView.{ControllerView, caller_of}

-- the first message of agent a's outbox is posted, by one post, where none was outstanding, and the
-- history says so
pub record PostsFirst (board : Board) (a : ℕ) (h : List Event) (old : CallerView) (h' : List Event)
    (new : CallerView) : Type 0 where
  pub message : Message
  pub first : slice_get (outbox board a h) 0 ≡ Some message
  pub unclosed : knows_close old ≡ false
  pub none_outstanding : ¬ (IsOutstanding old)
  pub event : h' ≡ h ++ Sent a ∷ []
  pub end : new
      ≡ record old { posted = old.posted ++ Good message ∷ []; posts = one_more old.posts }

-- what follows the `collect` at the endpoint of an agent's P2A channel: no post, if one is still
-- outstanding or else the outbox is empty; or one post, which finds the channel closed, or without
-- a place, or is made
abbrev pub FlushesOne : Bool → Board → ℕ → List Event → CallerView → Flushed → List Event
    → CallerView → Type 0
FlushesOne full board a h old flushed.Waiting h' new = (h' ≡ h) × ((IsOutstanding old × (new ≡ old))
    ⊎ (FindsNoPlace full old new × (0 < length (outbox board a h))))
FlushesOne full board a h old flushed.Nothing h' new = (h' ≡ h) × (new ≡ old)
    × (¬ (IsOutstanding old)) × (outbox board a h ≡ [])
FlushesOne full board a h old flushed.Closed h' new = (h' ≡ h) × IsRefused old new
    × (¬ (IsOutstanding old)) × (0 < length (outbox board a h))
FlushesOne full board a h old flushed.Posted h' new = PostsFirst board a h old h' new

-- one `collect` at the endpoint of an agent's P2A channel, and then this
pub record CollectsAndFlushes (full : Bool) (board : Board) (a : ℕ) (h : List Event)
    (old : CallerView) (result : Flushed) (h' : List Event) (new : CallerView) : Type 0 where
  pub answer : Collected
  pub collected : CallerView
  pub collects : Collects old answer collected
  pub step : FlushesOne full board a h collected result h' new

-- the same at the place of agent a, and nothing else changes but the room
pub record Flushes (full : Bool) (a : ℕ) (old : ControllerView) (result : Flushed)
    (new : ControllerView) : Type 0 where
  pub caller : CallerView
  pub step : CollectsAndFlushes full old.board a old.history
      (caller_of old a) result new.history caller
  pub same : new ≡ record old {
    history = new.history;
    room = new.room;
    callers = slice_set old.callers (a - 1) caller;
  }
