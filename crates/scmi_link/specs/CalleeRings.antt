-- What a contract sees of the callee's ends of a pair of rings.
use Rattle.std.specs.Prelude.{◌≡◌, ℕ, List, false}
use Rattle.rtrb.specs.Ring.{sent, received, SameProducer, SameConsumer, IsPair}
use Rattle.scmi_link.specs.View.{CalleeView}
use Rattle.scmi_link.specs.Envelope.{frames_in}
use Rattle.scmi_link.specs.Note.{answers_among}
use Rattle.scmi_link.specs.Rings.{rings_identity}
use Rattle.scmi_link.specs.declared.rings.Rings.{Rings}
use Rattle.scmi_link.specs.declared.callee_rings.CalleeRings.{CalleeRings}

-- what the callee has done; it is never notified of a close, since a caller closes only where
-- nothing is outstanding
abbrev pub callee_rings_view : CalleeRings → CalleeView
callee_rings_view c =
    record {
      taken = frames_in (received c.frames);
      answered = answers_among (sent c.answers);
      closed = c.closed;
      told = false;
      takes = c.takes;
    }

-- the ends of the same two rings
abbrev pub SameCalleeRings : CalleeRings → CalleeRings → Type 0
SameCalleeRings a b = SameConsumer a.frames b.frames × SameProducer a.answers b.answers

-- the callee's ends are ends of the rings of this identity
pub record IsCalleeOf (identity : List ℕ) (c : CalleeRings) : Type 0 where
  pub rings : Rings
  pub identity_is : rings_identity rings ≡ identity
  pub takes_from : IsPair rings.frames.value c.frames
  pub answers_into : SameProducer rings.answers.value c.answers
