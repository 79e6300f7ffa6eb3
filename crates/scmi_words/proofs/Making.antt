-- The table at the start, and the parting and joining of seats.
use Rattle.std.proofs.Common.{◌≡◌, ◌≢◌, ℕ, zero, suc, ◌+◌, ◌<◌, ◌^◌, List, [], ◌∷◌, ◌++◌, length, set, replicate, get_or, slice_index, sym, refl, ap, ◌∙◌, subst, arith, ◌⊎◌, inl, inr, ⊎_elim, Option, Some, None, ◌-◌}
use mathlib.Core.Option.{some, some-injective, some-ne-none}
use lib.ListN.{get_elem?, get_or-replicate}
use Rattle.atomic_table.specs.Table.{opening, Splits, Joins}
use Rattle.atomic_table.proofs.Lists.{at_set}
use Rattle.scmi_words.specs.declared.view.CallerHalf.{CallerHalf}
use Rattle.scmi_words.specs.declared.view.CalleeHalf.{CalleeHalf}
use Rattle.scmi_words.specs.declared.view.View.{View}
use Rattle.scmi_words.specs.Area.{fresh_words, fresh_table}
use Rattle.scmi_words.specs.Mailbox.{HalvesAgree, Rule, idle}
use Rattle.scmi_words.specs.View.{first_view, first_caller, first_callee, caller_only, callee_only, both_halves, no_half, caller_or, callee_or}
use Rattle.scmi_words.specs.declared.layout.TheConstants.{TABLE_WORDS, LENGTH}
use Rattle.scmi_words.proofs.Views.{St}

fresh_zero : (i : ℕ) → i < length fresh_words → get_or fresh_words i 0 ≡ 0
unfolding fresh_words
fresh_zero i lt = get_or-replicate (TABLE_WORDS - LENGTH) i 0 0 (omega arith)

pub starts : (words : List ℕ) → length words ≡ TABLE_WORDS → get_or words 0 0 ≡ 1
    → ((i : ℕ) → 0 < i → get_or words i 0 ≡ 0) → HalvesAgree (opening words [] first_view)
starts words wide free zeros = record {
  caller = first_caller;
  callee = first_callee;
  caller_seat = 0;
  callee_seat = 0;
  caller_at = λ i v h e has.
      (sym (ap caller_or (ap (λ (u : View). u.caller) (only i v e).0 ∙ has)), (only i v e).1);
  callee_at = λ i v h e has.
      (sym (ap callee_or (ap (λ (u : View). u.callee) (only i v e).0 ∙ has)), (only i v e).1);
  rule = record {
    wide = wide;
    flags = zeros 1 (omega arith);
    narrow = λ i pos. let z = zeros i pos in omega arith;
    stage = idle record {
      phase = refl;
      taken = refl;
      read = refl;
      answered = refl;
      no_draft = refl;
      status = free;
      area = λ _ i lt. zeros (2 + i) (omega arith) ∙ sym (fresh_zero i lt);
      draft = λ i lt. absurd (omega arith);
      valid = λ x e. absurd (let f : None ≡ Some x = e in cc);
      valid_frame = λ x e. absurd (let f : None ≡ Some x = e in cc);
    };
    caller_told = λ e. absurd
        (let f : Rattle.std.proofs.Common.false ≡ Rattle.std.proofs.Common.true = e in cc);
    callee_told = λ e. absurd
        (let f : Rattle.std.proofs.Common.false ≡ Rattle.std.proofs.Common.true = e in cc);
    caller_final = λ e. absurd
        (let f : Rattle.std.proofs.Common.false ≡ Rattle.std.proofs.Common.true = e in cc);
    callee_final = λ e. absurd
        (let f : Rattle.std.proofs.Common.false ≡ Rattle.std.proofs.Common.true = e in cc);
    shown = (omega arith, omega arith);
  };
}
  where
    only : (i : ℕ) (v : View) → get_elem? (first_view ∷ []) i ≡ some v → (first_view ≡ v) × (i ≡ 0)
    only zero v e = (some-injective first_view v e, refl)
    only (suc i) v e = absurd (some-ne-none v (sym e))

at_end : {A : Type 0} (l : List A) (a b : A) (j : ℕ) → get_elem? (l ++ a ∷ []) j ≡ some b
    → (get_elem? l j ≡ some b) ⊎ ((a ≡ b) × (j ≡ length l))
at_end [] a b zero e = inr (some-injective a b e, refl)
at_end [] a b (suc j) e = absurd (some-ne-none b (sym e))
at_end (x ∷ xs) a b zero e = inl e
at_end (x ∷ xs) a b (suc j) e = ⊎_elim (λ t. inl t) (λ t. inr (t.0, ap suc t.1)) (at_end xs a b j e)

pub parts : (id : ℕ) (v : View) (h : CallerHalf) (k : CalleeHalf) → v.caller ≡ Some h
    → v.callee ≡ Some k → Splits HalvesAgree id v (caller_only v) (callee_only v)
parts id v h k is is' s r at = record {
  caller = r.caller;
  callee = r.callee;
  caller_seat = r.caller_seat;
  callee_seat = length (set s.views id (caller_only v));
  caller_at = λ j w x e has. ⊎_elim
      (λ f. ⊎_elim
      (λ (t : (j ≡ id) × (caller_only v ≡ w)). let old = r.caller_at id v x at
      (ap (λ (u : View). u.caller) t.1 ∙ has) in (old.0, t.0 ∙ old.1))
      (λ (t : (j ≢ id) × (get_elem? s.views j ≡ some w)). r.caller_at j w x t.1 has)
      (at_set s.views id j (caller_only v) w f))
      (λ (t : (callee_only v ≡ w) × (j ≡ length (set s.views id (caller_only v)))). absurd
      (let f : None ≡ Some x = ap (λ (u : View). u.caller) t.0 ∙ has in cc))
      (at_end (set s.views id (caller_only v)) (callee_only v) w j e);
  callee_at = λ j w x e has. ⊎_elim
      (λ f. ⊎_elim
      (λ (t : (j ≡ id) × (caller_only v ≡ w)). absurd
      (let f : None ≡ Some x = ap (λ (u : View). u.callee) t.1 ∙ has in cc))
      (λ (t : (j ≢ id) × (get_elem? s.views j ≡ some w)). absurd
      (t.0 ((r.callee_at j w x t.1 has).1 ∙ sym (r.callee_at id v k at is').1)))
      (at_set s.views id j (caller_only v) w f))
      (λ (t : (callee_only v ≡ w) × (j ≡ length (set s.views id (caller_only v)))).
      ((r.callee_at id v x at (ap (λ (u : View). u.callee) t.0 ∙ has)).0, t.1))
      (at_end (set s.views id (caller_only v)) (callee_only v) w j e);
  rule = r.rule;
}

pub joins : (id : ℕ) (v : View) (other : ℕ) (w : View) (h : CallerHalf) (k : CalleeHalf) → v.caller
    ≡ Some h → w.callee ≡ Some k → Joins HalvesAgree id v other w (both_halves v w) no_half
joins id v other w h k is is' s r at apart there = record {
  caller = r.caller;
  callee = r.callee;
  caller_seat = r.caller_seat;
  callee_seat = id;
  caller_at = λ j u x e has. ⊎_elim
      (λ (t : (j ≡ other) × (no_half ≡ u)). absurd
      (let f : None ≡ Some x = ap (λ (u : View). u.caller) t.1 ∙ has in cc))
      (λ (t : (j ≢ other) × (get_elem? vs j ≡ some u)). ⊎_elim
      (λ (t' : (j ≡ id) × (both_halves v w ≡ u)). let old = r.caller_at id v x at
      (ap (λ (u : View). u.caller) t'.1 ∙ has) in (old.0, t'.0 ∙ old.1))
      (λ (t' : (j ≢ id) × (get_elem? s.views j ≡ some u)). r.caller_at j u x t'.1 has)
      (at_set s.views id j (both_halves v w) u t.1))
      (at_set vs other j no_half u e);
  callee_at = λ j u x e has. ⊎_elim
      (λ (t : (j ≡ other) × (no_half ≡ u)). absurd
      (let f : None ≡ Some x = ap (λ (u : View). u.callee) t.1 ∙ has in cc))
      (λ (t : (j ≢ other) × (get_elem? vs j ≡ some u)). ⊎_elim
      (λ (t' : (j ≡ id) × (both_halves v w ≡ u)).
      ((r.callee_at other w x before (ap (λ (u : View). u.callee) t'.1 ∙ has)).0, t'.0))
      (λ (t' : (j ≢ id) × (get_elem? s.views j ≡ some u)). absurd
      (t.0 ((r.callee_at j u x t'.1 has).1 ∙ sym (r.callee_at other w k before is').1)))
      (at_set s.views id j (both_halves v w) u t.1))
      (at_set vs other j no_half u e);
  rule = r.rule;
}
  where
    vs : List View
    vs = set s.views id (both_halves v w)

    before : get_elem? s.views other ≡ some w
    before = ⊎_elim (λ (t : (other ≡ id) × (both_halves v w ≡ w)). absurd (apart t.0))
        (λ (t : (¬ (other ≡ id)) × (get_elem? s.views other ≡ some w)). t.1)
        (at_set s.views id other (both_halves v w) w there)

zeros : ℕ → List ℕ
zeros n = replicate n 0

all_zero : (n i : ℕ) → get_or (zeros n) i 0 ≡ 0
unfolding zeros
all_zero zero i = refl
all_zero (suc n) zero = refl
all_zero (suc n) (suc i) = all_zero n i

tail_zero : (i : ℕ) → 0 < i → get_or (1 ∷ zeros (TABLE_WORDS - 1)) i 0 ≡ 0
tail_zero zero pos = absurd (omega arith)
tail_zero (suc i) pos = all_zero (TABLE_WORDS - 1) i

pub starts_fresh : HalvesAgree (opening fresh_table [] first_view)
unfolding zeros fresh_table
starts_fresh = starts (1 ∷ replicate (TABLE_WORDS - 1) 0) refl refl tail_zero

-- what the joined seat knows of the last words
pub closes : (words : List ℕ) (s : St) (r : HalvesAgree s) (id : ℕ) (v : View) (h : CallerHalf)
    (k : CalleeHalf) → s.words ≡ words → get_elem? s.views id ≡ some v → v.caller ≡ Some h
    → v.callee ≡ Some k → Rule words h k
closes words s r id v h k same at is is' =
    subst (λ (z : List ℕ × (CallerHalf × CalleeHalf)). Rule z.0 z.1.0 z.1.1) (λ i.
    (same i, (sym (r.caller_at id v h at is).0 i, sym (r.callee_at id v k at is').0 i))) r.rule
