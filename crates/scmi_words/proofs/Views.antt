-- The seat that has a half moves it, and every other view is as it was.
use Rattle.std.proofs.Common.{◌≡◌, ◌≢◌, ℕ, set, sym, ap, ◌∙◌, subst, ⊎_elim, Some}
use mathlib.Core.Option.{some}
use lib.ListN.{get_elem?}
use Rattle.atomic_table.specs.Table.{State}
use Rattle.atomic_table.proofs.Lists.{at_set}
use Rattle.scmi_words.specs.declared.view.CallerHalf.{CallerHalf}
use Rattle.scmi_words.specs.declared.view.CalleeHalf.{CalleeHalf}
use Rattle.scmi_words.specs.declared.view.View.{View}
use Rattle.scmi_words.specs.Mailbox.{Rule, HalvesAgree}
use Rattle.scmi_words.specs.View.{with_caller, with_callee, caller_or, callee_or}

abbrev pub St : Type 0
St = State (Unit {0}) View

-- the rule at the caller's half that a seat has
pub caller_known : (s : St) (r : HalvesAgree s) (id : ℕ) (v : View) (h : CallerHalf)
    → get_elem? s.views id ≡ some v → v.caller ≡ Some h → Rule s.words h r.callee
caller_known s r id v h at is =
    subst (λ c. Rule s.words c r.callee) (sym (r.caller_at id v h at is).0) r.rule

pub callee_known : (s : St) (r : HalvesAgree s) (id : ℕ) (v : View) (h : CalleeHalf)
    → get_elem? s.views id ≡ some v → v.callee ≡ Some h → Rule s.words r.caller h
callee_known s r id v h at is =
    subst (λ c. Rule s.words r.caller c) (sym (r.callee_at id v h at is).0) r.rule

pub caller_moves : (s : St) (r : HalvesAgree s) (id i n : ℕ) (v : View) (h h' : CallerHalf)
    → get_elem? s.views id ≡ some v → v.caller ≡ Some h
    → Rule (set s.words i n) h' r.callee → HalvesAgree record {
      words = set s.words i n;
      homes = s.homes;
      views = set s.views id (with_caller v h');
    }
caller_moves s r id i n v h h' at is rule = record {
  caller = h';
  callee = r.callee;
  caller_seat = id;
  callee_seat = r.callee_seat;
  caller_at = λ j w x e has. ⊎_elim
      (λ (t : (j ≡ id) × (with_caller v h' ≡ w)).
      (sym (ap caller_or (ap (λ (u : View). u.caller) t.1 ∙ has)), t.0))
      (λ (t : (j ≢ id) × (get_elem? s.views j ≡ some w)). absurd
      (t.0 ((r.caller_at j w x t.1 has).1 ∙ sym (r.caller_at id v h at is).1)))
      (at_set s.views id j (with_caller v h') w e);
  callee_at = λ j w x e has. ⊎_elim
      (λ (t : (j ≡ id) × (with_caller v h' ≡ w)). let old = r.callee_at id v x at
      (ap (λ (u : View). u.callee) t.1 ∙ has) in (old.0, t.0 ∙ old.1))
      (λ (t : (j ≢ id) × (get_elem? s.views j ≡ some w)). r.callee_at j w x t.1 has)
      (at_set s.views id j (with_caller v h') w e);
  rule = rule;
}

pub callee_moves : (s : St) (r : HalvesAgree s) (id i n : ℕ) (v : View) (h h' : CalleeHalf)
    → get_elem? s.views id ≡ some v → v.callee ≡ Some h
    → Rule (set s.words i n) r.caller h' → HalvesAgree record {
      words = set s.words i n;
      homes = s.homes;
      views = set s.views id (with_callee v h');
    }
callee_moves s r id i n v h h' at is rule = record {
  caller = r.caller;
  callee = h';
  caller_seat = r.caller_seat;
  callee_seat = id;
  caller_at = λ j w x e has. ⊎_elim
      (λ (t : (j ≡ id) × (with_callee v h' ≡ w)). let old = r.caller_at id v x at
      (ap (λ (u : View). u.caller) t.1 ∙ has) in (old.0, t.0 ∙ old.1))
      (λ (t : (j ≢ id) × (get_elem? s.views j ≡ some w)). r.caller_at j w x t.1 has)
      (at_set s.views id j (with_callee v h') w e);
  callee_at = λ j w x e has. ⊎_elim
      (λ (t : (j ≡ id) × (with_callee v h' ≡ w)).
      (sym (ap callee_or (ap (λ (u : View). u.callee) t.1 ∙ has)), t.0))
      (λ (t : (j ≢ id) × (get_elem? s.views j ≡ some w)). absurd
      (t.0 ((r.callee_at j w x t.1 has).1 ∙ sym (r.callee_at id v h at is).1)))
      (at_set s.views id j (with_callee v h') w e);
  rule = rule;
}
