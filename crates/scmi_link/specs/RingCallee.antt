-- What a contract sees of the callee's end of a ring channel.
use Rattle.std.specs.Prelude.{ℕ, List}
use Rattle.scmi_link.specs.View.{CalleeView}
use Rattle.scmi_link.specs.Steps.{CalleeCall}
use Rattle.scmi_link.specs.CalleeRings.{callee_rings_view}
use Rattle.scmi_link.specs.declared.ring_callee.RingCallee.{RingCallee}

-- what the callee has done
abbrev pub ring_callee_view : RingCallee → CalleeView
ring_callee_view c = callee_rings_view c.rings

-- the identity of the channel that made it
abbrev pub ring_callee_identity : RingCallee → List ℕ
ring_callee_identity c = c.identity.numbers

-- a ring's words are `rtrb`'s own, whose accesses are not counted
abbrev pub ring_callee_steps : RingCallee → CalleeCall → RingCallee → Type 0
ring_callee_steps old call new = Unit {0}
