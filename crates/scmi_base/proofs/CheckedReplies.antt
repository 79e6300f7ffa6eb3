-- Replies by checks: how long they are, and what a success has passed.
use Rattle.std.proofs.Common.{◌≡◌, ℕ, ◌≤◌, ◌<◌, ◌&&◌, ◌||◌, Bool, true, false, not, List, [], ◌∷◌, length, nat_le, refl, if◌then◌else◌}
use Rattle.std.proofs.lemmas.Bool.{leb-false, or_parts}
use Rattle.scmi_codec.specs.Payload.{begins_with_success}
use Rattle.scmi_codec.specs.Reply.{Check, reply_unless}
use Rattle.scmi_codec.specs.declared.status.Status.TheVariants.{Success, NotSupported, InvalidParameters, Denied, NotFound, OutOfRange, Busy, CommsError, GenericError, HardwareError, ProtocolError}

module _ (n : ℕ) (one : 1 ≤ n) where
  -- a reply by its checks is one word, or its row
  pub by_checks : (checks : List Check) (row : List ℕ) → length row ≤ n
      → length (reply_unless checks row) ≤ n
  by_checks [] row few = few
  by_checks ((true, status) ∷ checks) row few = one
  by_checks ((false, status) ∷ checks) row few = by_checks checks row few

  pub checked : (c : Bool) (status : ℕ) (row : List ℕ) → length row ≤ n
      → length (if c then status ∷ [] else row) ≤ n
  checked true status row few = one
  checked false status row few = few

-- what succeeded passed each check
pub passed : (checks : List Check) → begins_with_success (reply_unless checks (0 ∷ [])) ≡ true
    → reply_unless checks (0 ∷ []) ≡ 0 ∷ []
passed [] ok = refl
passed ((true, Success) ∷ checks) ok = refl
passed ((true, NotSupported) ∷ checks) ok = absurd (cc)
passed ((true, InvalidParameters) ∷ checks) ok = absurd (cc)
passed ((true, Denied) ∷ checks) ok = absurd (cc)
passed ((true, NotFound) ∷ checks) ok = absurd (cc)
passed ((true, OutOfRange) ∷ checks) ok = absurd (cc)
passed ((true, Busy) ∷ checks) ok = absurd (cc)
passed ((true, CommsError) ∷ checks) ok = absurd (cc)
passed ((true, GenericError) ∷ checks) ok = absurd (cc)
passed ((true, HardwareError) ∷ checks) ok = absurd (cc)
passed ((true, ProtocolError) ∷ checks) ok = absurd (cc)
passed ((false, e) ∷ checks) ok = passed checks ok

-- what succeeded is of what the board has
pub found : (count d : ℕ) (absent : Bool) (checks : List Check)
    → begins_with_success (reply_unless ((nat_le count d || absent, NotFound) ∷ checks) (0 ∷ []))
    ≡ true → d < count
found count d absent checks ok =
    leb-false count d (or_parts _ _ (by (nat_le count d || absent) ok)).0 where
      by : (b : Bool)
          → begins_with_success (reply_unless ((b, NotFound) ∷ checks) (0 ∷ [])) ≡ true → b ≡ false
      by true same = absurd (cc)
      by false same = refl

-- a set that succeeded passed the check of its permission
pub set-allowed : (c1 c2 c3 may busy : Bool)
    → begins_with_success (reply_unless ((c1, NotFound) ∷ (c2, InvalidParameters)
    ∷ (c3, NotSupported) ∷ (not may, Denied) ∷ (busy, Busy) ∷ []) (0 ∷ [])) ≡ true → may ≡ true
set-allowed c1 c2 c3 true busy ok = refl
set-allowed true c2 c3 false busy ok = absurd (cc)
set-allowed false true c3 false busy ok = absurd (cc)
set-allowed false false true false busy ok = absurd (cc)
set-allowed false false false false busy ok = absurd (cc)

-- a change that its agent may make where no rule of the board forbids it
pub may_alone : (may forbidden : Bool) → (may && not forbidden) ≡ true → may ≡ true
may_alone true forbidden e = refl
may_alone false forbidden e = absurd (cc)

pub not_forbidden : (may forbidden : Bool) → (may && not forbidden) ≡ true → forbidden ≡ false
not_forbidden true false e = refl
not_forbidden true true e = absurd (cc)
not_forbidden false forbidden e = absurd (cc)

-- a set that succeeded found none pending
pub free_of : (c1 c2 c3 c4 busy short : Bool)
    → begins_with_success (reply_unless ((c1, NotFound) ∷ (c2, InvalidParameters)
    ∷ (c3, NotSupported) ∷ (c4, Denied) ∷ (busy || short, Busy) ∷ []) (0 ∷ [])) ≡ true
    → busy ≡ false
free_of true c2 c3 c4 busy short ok = absurd (cc)
free_of false true c3 c4 busy short ok = absurd (cc)
free_of false false true c4 busy short ok = absurd (cc)
free_of false false false true busy short ok = absurd (cc)
free_of false false false false true short ok = absurd (cc)
free_of false false false false false short ok = refl

-- a set at once asks for no room
pub no_room : (later room : Bool) → later ≡ false → (later && not room) ≡ false
no_room true room off = absurd (let it : true ≡ false = off in cc)
no_room false room off = refl

-- a set that is accepted for later met room
pub room_of : (c1 c2 c3 c4 busy later room : Bool)
    → begins_with_success (reply_unless ((c1, NotFound) ∷ (c2, InvalidParameters) ∷ (
      c3,
      NotSupported,
    ) ∷ (c4, Denied) ∷ (busy || (later && not room), Busy) ∷ []) (0 ∷ [])) ≡ true
    → later ≡ true → room ≡ true
room_of true c2 c3 c4 busy later room ok l = absurd (cc)
room_of false true c3 c4 busy later room ok l = absurd (cc)
room_of false false true c4 busy later room ok l = absurd (cc)
room_of false false false true busy later room ok l = absurd (cc)
room_of false false false false true later room ok l = absurd (cc)
room_of false false false false false true true ok l = refl
room_of false false false false false true false ok l = absurd (cc)
room_of false false false false false false room ok l = absurd (cc)
