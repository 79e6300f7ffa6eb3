-- What a success gives and leaves, whichever protocol its command is of.
use Rattle.std.proofs.Common.{◌≡◌, ℕ, Bool, true, false, List, [], ◌∷◌, Option, Some, None, Ok, unwrap_or, option_map, refl, sym, ap, ◌∙◌, if◌then◌else◌}
use Rattle.std.specs.List.{All}
use Rattle.std.proofs.lemmas.List.Elements.{All-nil, All-cons}
use Rattle.scmi_codec.specs.Header.{HeaderFields}
use Rattle.scmi_codec.specs.Payload.{begins_with_success}
use Rattle.scmi_codec.specs.declared.command.Command as codec
use Rattle.scmi_codec.specs.Payload.{if_success}
use Rattle.scmi_core.specs.declared.pending_set.PendingSet.{PendingSet}
use Rattle.scmi_core.specs.declared.tables.Tables.{Tables}
use Rattle.std.specs.Option.{option_and_then}
use Rattle.scmi_core.specs.Deed.{Success, success_with, success_of}
use Rattle.scmi_core.specs.Tables.{outbox_at}

pub pick : {A : Type 0} (b : Bool) (x old : A)
    → unwrap_or (if b then Some x else None) old ≡ (if b then x else old)
pick true x old = refl
pick false x old = refl

-- an outbox that is as it was
pub same_box : (t n : Tables) (x : ℕ) → n.outboxes ≡ t.outboxes → outbox_at n x ≡ outbox_at t x
same_box t n x boxes = rw boxes refl

-- at most one set
pub all_none : (P : PendingSet → Type 0) → All P []
all_none P = All-nil P

pub all_one : (P : PendingSet → Type 0) (p : PendingSet) → P p → All P (p ∷ [])
all_one P p h = All-cons P p [] h (All-nil P)

-- a command succeeds if its reply says so
pub success-then : {Y : Type 0} (f : Success → Option Y) (a : ℕ) (header : HeaderFields)
    (c : codec.Command) (reply : List ℕ)
    → option_and_then f (success_of a header (Ok c) reply)
    ≡ if_success reply (f (record { caller = a; header = header; command = c }))
success-then f a header c reply = by (begins_with_success reply) where
  by : (b : Bool) → option_and_then f (if b then success_with a header (Ok c) else None)
      ≡ (if b then f (record { caller = a; header = header; command = c }) else None)
  by true = refl
  by false = refl

pub success-mapped : {X Y : Type 0} (f : X → Y) (reply : List ℕ) (o : Option X)
    → if_success reply (option_map f o) ≡ option_map f (if_success reply o)
success-mapped f reply o = by (begins_with_success reply) where
  by : (b : Bool) → (if b then option_map f o else None) ≡ option_map f (if b then o else None)
  by true = refl
  by false = refl

pub nothing_asked : (reply : List ℕ) (o : Option Bool) (old : Bool) → o ≡ None
    → unwrap_or (if_success reply o) old ≡ old
nothing_asked reply o old e = rw e (by (begins_with_success reply)) where
  by : (b : Bool) → unwrap_or (if b then None else None) old ≡ old
  by true = refl
  by false = refl

-- a success that says nothing leaves what was said before
pub says_nothing : (a : ℕ) (header : HeaderFields) (c : codec.Command) (reply : List ℕ)
    (f : Success → Option Bool) (old : Bool)
    → f (record { caller = a; header = header; command = c }) ≡ None
    → unwrap_or (option_and_then f (success_of a header (Ok c) reply)) old ≡ old
says_nothing a header c reply f old none =
    ap (λ o. unwrap_or o old) (success-then f a header c reply)
    ∙ nothing_asked reply (f (record { caller = a; header = header; command = c })) old none

-- what a success gives is what was wanted
pub of_success : {A : Type 0} (reply : List ℕ) (o : Option A) (x : A) → Some x ≡ if_success reply o
    → o ≡ Some x
of_success reply o x e = by (begins_with_success reply) e where
  by : {A : Type 0} {o : Option A} {x : A} (b : Bool) → Some x ≡ (if b then o else None)
      → o ≡ Some x
  by true e = sym e
  by false e = absurd (cc)
