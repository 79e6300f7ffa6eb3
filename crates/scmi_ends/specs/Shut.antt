-- What closing an agent's channels leaves.
use Rattle.std.specs.Prelude.{◌≡◌, ◌⊎◌, ℕ, ◌-◌, true, length, slice_set, Some, Result, Ok, Err}
use Rattle.std.specs.Option.{option_or}
use Rattle.scmi_link.specs.View.{CallerView, IsOutstanding}
use Rattle.scmi_link.specs.Calls.{Collects}
use Rattle.scmi_link.specs.declared.collected.Collected.{Collected}
use Rattle.scmi_link.specs.declared.closing.Closing.{Closing}
use Rattle.scmi_link.specs.declared.closing.Closing.TheVariants.{Idle, Withdrawn}
use Rattle.scmi_link.specs.declared.close_error.CloseError.{CloseError}
use Rattle.scmi_link.specs.declared.close_error.CloseError.TheVariants.{InService, ReplyWaiting}
use Rattle.scmi_link.specs.declared.shut_error.ShutError.{ShutError}
use Rattle.scmi_link.specs.declared.shut_error.ShutError.TheVariants as shut
use Rattle.scmi_ends.specs.ControllerView.{ControllerView, callee_of, caller_of, closed_at_of}

-- what an end with this view shows by a close, as its kind of channel says it
abbrev pub ShowsClose : {Caller : Type 0} → (Caller → CallerView) → (Caller
    → Result Closing CloseError → Type 0) → CallerView → Result Closing CloseError → Type 0
ShowsClose {Caller} view_of shows view closing = (caller : Caller) × (view_of caller ≡ view)
    × shows caller closing

-- what a kind of channel lets a close show, by the view after it
module _ (Shows : CallerView → Result Closing CloseError → Type 0) where
  -- a caller closes; a post that is outstanding is withdrawn
  abbrev pub Closes : CallerView → CallerView → Type 0
  Closes old new =
      ((¬ (IsOutstanding old)) × (new ≡ record old { closed = true }) × Shows new (Ok Idle))
      ⊎ (IsOutstanding old × (new ≡ record old { closed = true; left = true })
      × Shows new (Ok Withdrawn))

  -- what follows the `collect` at the endpoint of an agent's P2A channel: it closes, or a post is
  -- still outstanding
  abbrev pub ShutsOne : CallerView → Result (Unit {0}) ShutError → CallerView → Type 0
  ShutsOne old (Ok done) new = Closes old new
  ShutsOne old (Err shut.NoAgent) new = ⊥
  ShutsOne old (Err shut.InService) new = IsOutstanding old × (new ≡ old)
      × Shows new (Err InService)
  ShutsOne old (Err shut.ReplyWaiting) new = IsOutstanding old × (new ≡ old)
      × Shows new (Err ReplyWaiting)

  -- one `collect` at the endpoint of an agent's P2A channel, and then this
  pub record CollectsAndShuts (old : CallerView) (result : Result (Unit {0}) ShutError)
      (new : CallerView) : Type 0 where
    pub answer : Collected
    pub collected : CallerView
    pub collects : Collects old answer collected
    pub step : ShutsOne collected result new

  -- at the place of agent a the end of A2P closes, whatever the answer, and the first close is
  -- noted; this happens at the end of P2A; nothing else changes
  pub record Shuts (a : ℕ) (old : ControllerView) (result : Result (Unit {0}) ShutError)
      (new : ControllerView) : Type 0 where
    pub caller : CallerView
    pub step : CollectsAndShuts (caller_of old a) result caller
    pub same : new ≡ record old {
      callees = slice_set old.callees (a - 1) (record (callee_of old a)
          { closed = true });
      callers = slice_set old.callers (a - 1) caller;
      closed_at = slice_set
          old.closed_at (a - 1) (option_or (closed_at_of old a) (Some (length old.history)));
    }
