-- What serving an agent and advancing leave, beside the hardware.
use Rattle.std.specs.Prelude.{◌≡◌, ℕ, ◌-◌, false, List, [], ◌∷◌, ◌++◌, None, slice_set}
use Rattle.scmi_codec.specs.declared.frame.Frame.{Frame}
use Rattle.scmi_codec.specs.declared.frame.Answer.{Answer}
use Rattle.scmi_link.specs.View.{CalleeView, callee_knows_close, one_more}
use Rattle.scmi_link.specs.Calls.{TakesNone}
use Rattle.scmi_plan.specs.Board.{Board}
use Rattle.scmi_core.specs.declared.event.Event.{Event}
use Rattle.scmi_core.specs.Asked.{Asked, IsAsked}
use Rattle.scmi_core.specs.Driven.{ExecutesOn}
use Rattle.scmi_link.specs.declared.served.Served.{Served}
use Rattle.scmi_link.specs.declared.served.Served.TheVariants as served
use Rattle.scmi_ends.specs.ControllerView.{ControllerView, callee_of}

-- one `take` gave this frame, which is then in the history as a command of agent a, done or failed,
-- and answered as the history says; and the hardware was asked for what belongs to it, and for
-- nothing else
pub record TakesAndExecutes (board : Board) (a : ℕ) (h : List Event) (asked : List Asked → Type 0)
    (old : CalleeView) (h' : List Event) (asked' : List Asked → Type 0)
    (new : CalleeView) : Type 0 where
  pub frame : Frame
  pub answer : Answer
  pub unclosed : callee_knows_close old ≡ false
  pub executes : ExecutesOn board a frame answer h asked h' asked'
  pub end : new ≡ record old {
    taken = old.taken ++ frame ∷ [];
    answered = old.answered ++ answer ∷ [];
    takes = one_more old.takes;
  }

-- one `take` at the endpoint of an agent's A2P channel; if it gave nothing, the history and the
-- hardware stay
abbrev pub ServesOneOn : Board → ℕ → List Event → (List Asked → Type 0) → CalleeView → Served
    → List Event → (List Asked → Type 0) → CalleeView → Type 0
ServesOneOn board a h asked old served.Nothing h' asked' new = (h' ≡ h) × IsAsked asked None asked'
    × TakesNone old new
ServesOneOn board a h asked old served.Done h' asked' new =
    TakesAndExecutes board a h asked old h' asked' new

-- the same at the place of agent a, and nothing else changes but the room
pub record ServesOn (a : ℕ) (old : ControllerView) (asked : List Asked → Type 0) (result : Served)
    (new : ControllerView) (asked' : List Asked → Type 0) : Type 0 where
  pub callee : CalleeView
  pub step : ServesOneOn old.board a old.history asked
      (callee_of old a) result new.history asked' callee
  pub same : new ≡ record old {
    history = new.history;
    room = new.room;
    callees = slice_set old.callees (a - 1) callee;
  }
