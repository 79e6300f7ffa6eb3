-- What serving an agent leaves.
use Rattle.std.specs.Prelude.{◌≡◌, ℕ, ◌-◌, false, List, [], ◌∷◌, ◌++◌, slice_set}
use Rattle.scmi_codec.specs.declared.frame.Frame.{Frame}
use Rattle.scmi_link.specs.View.{CalleeView, callee_knows_close, one_more}
use Rattle.scmi_link.specs.Calls.{TakesNone}
use Rattle.scmi_plan.specs.Board.{Board}
use Rattle.scmi_core.specs.History.{answer_to}
use Rattle.scmi_core.specs.declared.event.Event.{Event}
use Rattle.scmi_core.specs.declared.event.Event.TheVariants.{Command}
use Rattle.scmi_link.specs.declared.served.Served.{Served}
use Rattle.scmi_link.specs.declared.served.Served.TheVariants as served
use Rattle.scmi_ends.specs.ControllerView.{ControllerView, callee_of}

-- one `take` gave this frame, which is then in the history as a command of agent a, and answered as
-- the history says
pub record Executes (board : Board) (a : ℕ) (h : List Event) (old : CalleeView) (h' : List Event)
    (new : CalleeView) : Type 0 where
  pub frame : Frame
  pub unclosed : callee_knows_close old ≡ false
  pub event : h' ≡ h ++ Command a frame ∷ []
  pub end : new ≡ record old {
    taken = old.taken ++ frame ∷ [];
    answered = old.answered ++ answer_to board a frame h ∷ [];
    takes = one_more old.takes;
  }

-- one `take` at the endpoint of an agent's A2P channel; if it gave nothing, the history stays
abbrev pub ServesOne : Board → ℕ → List Event → CalleeView → Served → List Event
    → CalleeView → Type 0
ServesOne board a h old served.Nothing h' new = (h' ≡ h) × TakesNone old new
ServesOne board a h old served.Done h' new = Executes board a h old h' new

-- the same at the place of agent a, and nothing else changes but the room
pub record Serves (a : ℕ) (old : ControllerView) (result : Served)
    (new : ControllerView) : Type 0 where
  pub callee : CalleeView
  pub step : ServesOne old.board a old.history (callee_of old a) result new.history callee
  pub same : new ≡ record old {
    history = new.history;
    room = new.room;
    callees = slice_set old.callees (a - 1) callee;
  }
