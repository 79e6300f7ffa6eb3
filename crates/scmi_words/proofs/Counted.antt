-- Each kind of step counts itself, whatever it finds.
use Rattle.std.proofs.Common.{◌≡◌, ◌≢◌, ℕ, ◌+◌, ◌%◌, Bool, true, false, cond, ap, ◌∙◌, refl, arith, ◌⊎◌, inl, inr, ⊎_elim, Some}
use mathlib.Core.Logic.{dite}
use mathlib.Core.Option.{none}
use native.Mathlib.Decide.{ℕ_discrete}
use Rattle.atomic_table.specs.Table.{Me, step}
use Rattle.scmi_words.specs.declared.phase.Phase.{Phase}
use Rattle.scmi_words.specs.declared.phase.Phase.TheVariants.{Idle, Waiting, Withdrawing, Withdrawn, GivenUp}
use Rattle.scmi_words.specs.declared.status_word.TheConstants.{POSTED, FREE, CLOSED}
use Rattle.scmi_words.specs.declared.view.CallerHalf.{CallerHalf}
use Rattle.scmi_words.specs.declared.view.CalleeHalf.{CalleeHalf}
use Rattle.scmi_words.specs.declared.view.View.{View}
use Rattle.scmi_words.specs.View.{with_caller, with_callee, caller_or, callee_or}
use Rattle.scmi_words.specs.SharedTable.{accesses, Counts}
use Rattle.scmi_words.specs.CallerSteps as caller
use Rattle.scmi_words.specs.CalleeSteps as callee

abbrev M : Type 0
M = Me (Unit {0}) View

-- the caller's half counts one more
caller_moved : (me after : M) (h h' : CallerHalf) → me.0.caller ≡ Some h → after
    ≡ (with_caller me.0 h', me.1) → h'.steps ≡ h.steps + 1 → accesses after ≡ accesses me + 1
caller_moved me after h h' is at one =
    let a : accesses after ≡ h'.steps + (callee_or me.0.callee).steps = ap accesses at in
    let b : (caller_or me.0.caller).steps ≡ h.steps = ap (λ o. (caller_or o).steps) is in
    omega arith

callee_moved : (me after : M) (h h' : CalleeHalf) → me.0.callee ≡ Some h → after
    ≡ (with_callee me.0 h', me.1) → h'.steps ≡ h.steps + 1 → accesses after ≡ accesses me + 1
callee_moved me after h h' is at one =
    let a : accesses after ≡ (caller_or me.0.caller).steps + h'.steps = ap accesses at in
    let b : (callee_or me.0.callee).steps ≡ h.steps = ap (λ o. (callee_or o).steps) is in
    omega arith

waits : (p : Phase) → (p ≡ Waiting) ⊎ (p ≢ Waiting)
waits Idle = inr (λ (e : Idle ≡ Waiting). cc)
waits Waiting = inl refl
waits Withdrawing = inr (λ (e : Withdrawing ≡ Waiting). cc)
waits Withdrawn = inr (λ (e : Withdrawn ≡ Waiting). cc)
waits GivenUp = inr (λ (e : GivenUp ≡ Waiting). cc)

either_way : (b : Bool) (x y : CallerHalf) (n : ℕ) → x.steps ≡ n → y.steps ≡ n
    → (cond b x y).steps ≡ n
either_way true x y n this that = this
either_way false x y n this that = that

module _ (slots : ℕ) (me : M) (h : CallerHalf) (is : me.0.caller ≡ Some h) where
  pub stores_count : (j a : ℕ) → Counts (λ _. caller.stores (step slots j a 0 none) me a) me
  stores_count j a found after tells =
      let t = tells h is in
      caller_moved me after h t.0 is t.1 (ap (λ (z : CallerHalf). z.steps) t.2)

  pub posts_count : (old : ℕ) → Counts (caller.posts (step slots 0 old POSTED none) me) me
  posts_count old found after tells = let t = tells h is in caller_moved me after h t.0 is t.1
      (dite (ℕ_discrete found old) (λ hit. ap (λ (z : CallerHalf). z.steps) (t.2.0 hit))
      (λ miss. ap (λ (z : CallerHalf). z.steps) (t.2.1 miss)))

  saw_counts : (n : ℕ) (h' : CallerHalf) → caller.Sees h n h' → h'.steps ≡ h.steps + 1
  saw_counts n h' sees = dite (ℕ_discrete (n % 2) FREE)
      (λ odd. ap (λ (z : CallerHalf). z.steps) (sees.0 odd).1)
      (λ even. dite (ℕ_discrete n CLOSED) (λ e. ap (λ (z : CallerHalf). z.steps) (sees.1 e))
      (λ ne. ap (λ (z : CallerHalf). z.steps) (sees.2 even ne).0))

  pub looks_count : Counts (caller.looks (step slots 0 0 0 none) me) me
  looks_count found after tells = let t = tells h is in caller_moved me after h t.0 is t.1
      (⊎_elim (λ (w : h.state.phase ≡ Waiting). saw_counts found t.0 (t.2.0 w))
      (λ (n : h.state.phase ≢ Waiting). ap (λ (z : CallerHalf). z.steps) (t.2.1 n))
      (waits h.state.phase))

  pub reads_count : (j : ℕ) → Counts (caller.reads (step slots j 0 0 none) me) me
  reads_count j found after tells =
      let t = tells h is in
      caller_moved me after h t.0 is t.1 (ap (λ (z : CallerHalf). z.steps) t.2.0)

  pub closes_count : (bits : ℕ) → Counts (caller.closes (step slots 0 bits 0 none) me) me
  closes_count bits found after tells = let t = tells h is in caller_moved me after h t.0 is t.1
      (ap (λ (z : CallerHalf). z.steps) t.2.1 ∙ either_way _ (caller.caller_closed h t.2.0)
      (caller.caller_withdrew h t.2.0) (h.steps + 1) refl refl)

  refused_counts : (n : ℕ) (h' : CallerHalf) → caller.Refuses h n h' → h'.steps ≡ h.steps + 1
  refused_counts n h' (inl x) = ap (λ (z : CallerHalf). z.steps) x.1
  refused_counts n h' (inr (inl x)) = ap (λ (z : CallerHalf). z.steps) x.1
  refused_counts n h' (inr (inr x)) = ap (λ (z : CallerHalf). z.steps) x.1

  pub withdraws_count : Counts (caller.withdraws (step slots 0 POSTED (CLOSED + FREE) none) me) me
  withdraws_count found after tells = let t = tells h is in caller_moved me after h t.0 is t.1
      (dite (ℕ_discrete found POSTED) (λ hit. ap (λ (z : CallerHalf). z.steps) (t.2.0 hit).1)
      (λ miss. refused_counts found t.0 (t.2.1 miss)))

module _ (slots : ℕ) (me : M) (h : CalleeHalf) (is : me.0.callee ≡ Some h) where
  pub takes_count : (taken : ℕ) → Counts (callee.takes (step slots 0 POSTED taken none) me) me
  takes_count taken found after tells = let t = tells h is in callee_moved me after h t.0 is t.1
      (dite (ℕ_discrete found POSTED) (λ hit. ap (λ (z : CalleeHalf). z.steps) (t.2.0 hit).2)
      (λ miss. ap (λ (z : CalleeHalf). z.steps) (t.2.1 miss)))

  pub callee_reads_count : (j : ℕ) → Counts (callee.reads (step slots j 0 0 none) me) me
  callee_reads_count j found after tells =
      let t = tells h is in
      callee_moved me after h t.0 is t.1 (ap (λ (z : CalleeHalf). z.steps) t.2.0)

  pub callee_stores_count : (j a : ℕ) → Counts (λ _. callee.stores (step slots j a 0 none) me a) me
  callee_stores_count j a found after tells =
      let t = tells h is in
      callee_moved me after h t.0 is t.1 (ap (λ (z : CalleeHalf). z.steps) t.2)

  pub answers_count : (old status : ℕ)
      → Counts (callee.answers (step slots 0 old status none) me) me
  answers_count old status found after tells =
      let t = tells h is in
      callee_moved me after h t.0 is t.1 (ap (λ (z : CalleeHalf). z.steps) t.2)

  pub callee_closes_count : (bits : ℕ) → Counts (callee.closes (step slots 0 bits 0 none) me) me
  callee_closes_count bits found after tells =
      let t = tells h is in
      callee_moved me after h t.0 is t.1 (ap (λ (z : CalleeHalf). z.steps) t.2.1)
