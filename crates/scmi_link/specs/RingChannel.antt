-- The identity of a ring channel.
use Rattle.std.specs.Prelude.{ℕ, List}
use Rattle.scmi_link.specs.declared.ring_channel.RingChannel.{RingChannel}

-- the identity of the rings that it was made of
abbrev pub ring_identity : RingChannel → List ℕ
ring_identity c = c.identity.numbers
