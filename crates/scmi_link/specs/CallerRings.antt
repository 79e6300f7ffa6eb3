-- What a contract sees of the caller's ends of a pair of rings.
use Rattle.std.specs.Prelude.{◌≡◌, ℕ, List, Result, Ok, Err}
use Rattle.rtrb.specs.Ring.{sent, received, SameProducer, SameConsumer, IsPair}
use Rattle.scmi_link.specs.View.{CallerView}
use Rattle.scmi_link.specs.Envelope.{frames_in}
use Rattle.scmi_link.specs.Note.{answers_among}
use Rattle.scmi_link.specs.Rings.{rings_identity}
use Rattle.scmi_link.specs.declared.rings.Rings.{Rings}
use Rattle.scmi_link.specs.declared.caller_rings.CallerRings.{CallerRings}
use Rattle.scmi_link.specs.declared.closing.Closing.{Closing}
use Rattle.scmi_link.specs.declared.closing.Closing.TheVariants.{Idle, Withdrawn}
use Rattle.scmi_link.specs.declared.close_error.CloseError.{CloseError}
use Rattle.scmi_link.specs.declared.close_error.CloseError.TheVariants.{InService, ReplyWaiting}

-- what the caller has done
abbrev pub caller_rings_view : CallerRings → CallerView
caller_rings_view c =
    record {
      posted = frames_in (sent c.frames);
      read = answers_among (received c.answers);
      closed = c.closed;
      told = c.told;
      left = c.left;
      posts = c.posts;
      collects = c.collects;
    }

-- the ends of the same two rings
abbrev pub SameCallerRings : CallerRings → CallerRings → Type 0
SameCallerRings a b = SameProducer a.frames b.frames × SameConsumer a.answers b.answers

-- the caller's ends are ends of the rings of this identity
pub record IsCallerOf (identity : List ℕ) (c : CallerRings) : Type 0 where
  pub rings : Rings
  pub identity_is : rings_identity rings ≡ identity
  pub posts_into : SameProducer rings.frames.value c.frames
  pub reads_from : IsPair rings.answers.value c.answers

-- how a close may end
abbrev pub IsIdleOrInService : Result Closing CloseError → Type 0
IsIdleOrInService (Ok Idle) = Unit {0}
IsIdleOrInService (Ok Withdrawn) = ⊥
IsIdleOrInService (Err InService) = Unit {0}
IsIdleOrInService (Err ReplyWaiting) = ⊥
