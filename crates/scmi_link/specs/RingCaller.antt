-- What a contract sees of the caller's end of a ring channel.
use Rattle.std.specs.Prelude.{ℕ, List, Result}
use Rattle.scmi_link.specs.View.{CallerView}
use Rattle.scmi_link.specs.Steps.{CallerCall}
use Rattle.scmi_link.specs.CallerRings.{caller_rings_view, IsIdleOrInService}
use Rattle.scmi_link.specs.declared.closing.Closing.{Closing}
use Rattle.scmi_link.specs.declared.close_error.CloseError.{CloseError}
use Rattle.scmi_link.specs.declared.ring_caller.RingCaller.{RingCaller}

-- what the caller has done
abbrev pub ring_caller_view : RingCaller → CallerView
ring_caller_view c = caller_rings_view c.rings

-- the identity of the channel that made it
abbrev pub ring_caller_identity : RingCaller → List ℕ
ring_caller_identity c = c.identity.numbers

-- a ring takes no frame back and does not look for its answer: a close is idle, or refused as in
-- service
abbrev pub ring_close_shows : RingCaller → Result Closing CloseError → Type 0
ring_close_shows c result = IsIdleOrInService result

-- a ring's words are `rtrb`'s own, whose accesses are not counted
abbrev pub ring_caller_steps : RingCaller → CallerCall → RingCaller → Type 0
ring_caller_steps old call new = Unit {0}
