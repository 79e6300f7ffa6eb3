-- What the platform's rounds leave. They serve, advance and flush beside the hardware, so a command
-- or a completion that it refused is an event of the history as any other.
use Rattle.std.specs.Prelude.{◌≡◌, ℕ, Bool, false, List}
use Rattle.std.specs.List.{All}
use Rattle.scmi_core.specs.Asked.{Asked}
use Rattle.scmi_core.specs.Driven.{HasMade}
use Rattle.scmi_core.specs.declared.event.Event.{Event}
use Rattle.scmi_core.specs.declared.event.Event.TheVariants.{Restarted, Promoted, Reported, Settled}
use Rattle.scmi_ends.specs.declared.link.Link.{Link}
use Rattle.scmi_ends.specs.ControllerView.{ControllerView}
use Rattle.scmi_ends.specs.Links.{HasLinks}
use Rattle.scmi_core.specs.Plain.{IsPlain}

-- the platform has closed no agent's A2P channel
abbrev pub IsOpenToAll : ControllerView → Type 0
IsOpenToAll platform = All (λ callee. callee.closed ≡ false) platform.callees

-- any event but a restart, a promotion, a settling and a report of the hardware
abbrev pub IsOfRounds : Event → Type 0
IsOfRounds (Restarted a) = ⊥
IsOfRounds (Promoted place) = ⊥
IsOfRounds (Settled clock rate) = ⊥
IsOfRounds (Reported effect) = ⊥
IsOfRounds _ = Unit {0}

-- what rounds leave as it was: the links whose endpoints the platform has, the board, and that the
-- endpoints are open; hardware that keeps a list goes on having been asked for what belongs to the
-- history; no agent is restarted, no set is promoted or settled, and the hardware reports nothing;
-- and beside hardware that never refuses the history goes on with plain events
pub record GoesOn {C Caller Callee Rest : Type 0} (refuses : Bool) (identity : C → List ℕ)
    (links : List (Link C Caller Callee Rest)) (old : ControllerView) (asked : List Asked → Type 0)
    (new : ControllerView) (asked' : List Asked → Type 0) : Type 0 where
  pub has_links : HasLinks identity links new
  pub board : new.board ≡ old.board
  pub open_ends : IsOpenToAll new
  pub made : (before : List Asked) → HasMade before old.board old.history asked
      → HasMade before new.board new.history asked'
  pub of_rounds : All IsOfRounds old.history → All IsOfRounds new.history
  pub plain : refuses ≡ false → All IsPlain old.history → All IsPlain new.history
