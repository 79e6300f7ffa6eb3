-- What a push or a pop of a note leaves true.
use Rattle.std.proofs.Common.{◌≡◌, ℕ, ◌+◌, ◌⊎◌, inl, inr, Bool, true, false, ◌||◌, not, List, [], ◌∷◌, ◌++◌, length, Box, Result, Ok, Err, OnOk, IfErr, refl, sym, ap, ◌∙◌, arith, length-append}
use Rattle.std.proofs.lemmas.Bool.{false≢true}
use mathlib.Core.List.{IsPrefix}
use Rattle.rtrb.specs.Ring.{sent, received}
use Rattle.std.specs.declared.alloc.Global.{Global}
use Rattle.scmi_link.specs.declared.envelope.Envelope.{Envelope}
use Rattle.scmi_link.specs.Envelope.{frames_in}
use Rattle.scmi_link.specs.declared.callee_rings.CalleeRings.{CalleeRings}
use Rattle.scmi_link.specs.declared.note.Note.{Note}
use Rattle.scmi_link.specs.declared.note.Note.TheVariants.{Said, Closing}
use Rattle.scmi_link.specs.Note.{answers_among, has_closing, ends_well}
use Rattle.scmi_link.specs.Bit.{bit}
use Rattle.scmi_link.proofs.NoteLemmas.{answers_among-said, answers_among-closing, has_closing-said, ends_well-said, ends_well-closing}

pub is_set : (b : Bool) (n m : ℕ) → n ≡ m + bit b → n ≡ m + 1 → b ≡ true
is_set true n m h k = refl
is_set false n m h k = absurd (omega arith)

pub not_true : (b : Bool) → (b ≡ true → ⊥) → b ≡ false
not_true true h = absurd (h refl)
not_true false h = refl

-- an owed answer goes in
module _ (d : CalleeRings) (ns' : List Note) (a : Box Envelope Global)
    (owes : length (frames_in (received d.frames)) ≡ length (answers_among (sent d.answers)) + 1)
    (e : ns' ≡ sent d.answers ++ Said a ∷ []) where
  no_closing : has_closing (sent d.answers) ≡ false
  no_closing = not_true _ (λ h. false≢true (sym (d.done (d.noted h))
      ∙ is_set d.owing _ (length (answers_among (sent d.answers))) d.counted owes))

  pub answered_said : answers_among ns' ≡ answers_among (sent d.answers) ++ a.value.answer ∷ []
  answered_said = ap answers_among e ∙ answers_among-said (sent d.answers) a

  pub answered_counted : length (frames_in (received d.frames))
      ≡ length (answers_among ns') + bit false
  answered_counted = rw answered_said
      (omega (arith, owes, length-append (answers_among (sent d.answers)) (a.value.answer ∷ [])))

  pub answered_noted : has_closing ns' ≡ true → d.closed ≡ true
  answered_noted h = absurd (false≢true
      (sym no_closing ∙ sym (has_closing-said (sent d.answers) a) ∙ sym (ap has_closing e) ∙ h))

  pub answered_last : ends_well ns' ≡ true
  answered_last = ap ends_well e ∙ ends_well-said (sent d.answers) a no_closing

-- the closing note goes in where there is room
pub pushed : {E : Type 0} (r : Result (Unit {0}) E) (ns ns' : List Note)
    (Q : Type 0) (P : E → Type 0) (R : Type 0) → OnOk r ((ns' ≡ ns ++ Closing ∷ []) × Q)
    → IfErr r (λ x. P x × (ns' ≡ ns) × R) → (ns' ≡ ns ++ Closing ∷ []) ⊎ (ns' ≡ ns)
pushed (Ok u) ns ns' Q P R ok err = inl ok.0
pushed (Err x) ns ns' Q P R ok err = inr err.1

pub closing_said : (ns ns' : List Note) → (ns' ≡ ns ++ Closing ∷ []) ⊎ (ns' ≡ ns)
    → answers_among ns' ≡ answers_among ns
closing_said ns ns' h =
    elim h [ inl e ↦ ap answers_among e ∙ answers_among-closing ns | inr e ↦ ap answers_among e ]

pub closing_last : (ns ns' : List Note) → has_closing ns ≡ false → ends_well ns ≡ true
    → (ns' ≡ ns ++ Closing ∷ []) ⊎ (ns' ≡ ns) → ends_well ns' ≡ true
closing_last ns ns' n w h =
    elim h [ inl e ↦ ap ends_well e ∙ ends_well-closing ns n | inr e ↦ ap ends_well e ∙ w ]

pub or_true : (b : Bool) → (b || true) ≡ true
or_true true = refl
or_true false = refl

-- a caller that waits has not closed
pub told_now : (told closed waiting : Bool) → waiting ≡ true → (closed ≡ true → waiting ≡ false)
    → true ≡ (told || not closed)
told_now told true waiting w q = absurd (false≢true (sym (q refl) ∙ w))
told_now true false waiting w q = refl
told_now false false waiting w q = refl

-- the item seen first is the next that comes
pub first_is : {X : Type 0} (x y : X) (ks ks' : List X) → IsPrefix (x ∷ []) ks
    → ks ≡ y ∷ ks' → y ≡ x
first_is x y ks ks' p e = cc
