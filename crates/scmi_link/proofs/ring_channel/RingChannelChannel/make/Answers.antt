use Rattle.std.proofs.Common.{sym}
use Rattle.scmi_link.specs.declared.rings.Rings.{Rings}
use Rattle.scmi_link.proofs.RingIdentities.{same_producer, same_pair}
use Rattle.scmi_link.proofs.ring_channel.RingChannelChannel.make.Goals as goal

pub invariant_of-caller-2 : goal.invariant_of-caller-2
invariant_of-caller-2 c =
    let rings : Rings = record { frames = c.of.result; answers = c.of-2.result } in
    record {
      identified = ∣ record {
        rings = rings;
        identity_is = sym c.of-4.ensures;
        posts_into = same_producer _ _ c.of.ensures;
        reads_from = same_pair _ _ c.of-2.ensures c.in-Ok-new.answers c.in-Ok-new.ensures.pair;
      } ∣₁;
    }

pub invariant_of-callee-2 : goal.invariant_of-callee-2
invariant_of-callee-2 c =
    let rings : Rings = record { frames = c.of.result; answers = c.of-2.result } in
    record {
      identified = ∣ record {
        rings = rings;
        identity_is = sym c.of-5.ensures;
        takes_from = same_pair _ _ c.of.ensures c.in-Ok.posted c.in-Ok.ensures.pair;
        answers_into = same_producer _ _ c.of-2.ensures;
      } ∣₁;
    }
