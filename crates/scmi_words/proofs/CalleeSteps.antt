-- The callee's steps keep the rule.
use Rattle.std.proofs.Common.{◌≡◌, ◌≢◌, ℕ, ◌+◌, ◌<◌, ◌≤◌, ◌^◌, ◌||◌, Bool, true, false, eqb, List, [], ◌∷◌, ◌++◌, length, set, get_or, slice_index, sym, refl, ap, ◌∙◌, subst, arith, length-set, length-append, get_or-set_same, get_or-set_other, ⊎_elim, Option, Some, None}
use mathlib.Core.Option.{none}
use lib.Seq.{set-get_or}
use prog.Atomic.{either}
use Rattle.atomic_table.proofs.Lists.{exchanged}
use Rattle.atomic_table.specs.Table.{Me, step, keeps, stepped, Allows, Valid, carried_after}
use Rattle.scmi_codec.specs.declared.frame.Frame.{Frame}
use Rattle.scmi_words.specs.declared.phase.Phase.TheVariants.{Waiting, Withdrawing, GivenUp}
use Rattle.scmi_words.specs.declared.view.CallerState.{CallerState}
use Rattle.scmi_words.specs.declared.view.CalleeState.{CalleeState}
use Rattle.scmi_words.specs.declared.view.CallerHalf.{CallerHalf}
use Rattle.scmi_words.specs.declared.view.CalleeHalf.{CalleeHalf}
use Rattle.scmi_words.specs.declared.view.View.{View}
use Rattle.scmi_words.specs.Area.{Begins, frame_words, taken_words}
use Rattle.scmi_words.specs.StatusWord.{Mark, status_word}
use Rattle.scmi_words.specs.Mailbox.{Rule, HalvesAgree, Stage, IsPosted, IsTaken, idle, posted, taken, answered, withdrawn}
use Rattle.scmi_words.specs.View.{with_callee, callee_or}
use Rattle.scmi_words.specs.CalleeSteps.{callee_after, callee_stored, callee_looked, callee_took, IsOwing, frame_area, takes, reads, stores}
use Rattle.scmi_words.proofs.TableWords.{begins_more, begins_after_status, narrow_after, narrow_status, last_snoc}
use Rattle.scmi_words.proofs.Status.{told_right, not_settled_zero, not_taken_zero, posted_zero, or_sides}
use Rattle.scmi_words.specs.declared.status_word.TheConstants.{TAKEN}
use Rattle.scmi_words.specs.declared.layout.TheConstants.{TABLE_WORDS}
use Rattle.scmi_words.proofs.Views.{callee_known, callee_moves}

abbrev M : Type 0
M = Me (Unit {0}) View

-- where an answer is owed, the stage is taken
pub is_taken : (words : List ℕ) (c : CallerState) (k : CalleeState) → Stage words c k
    → length k.taken ≡ length k.answered + 1 → IsTaken words c k
is_taken words c k (idle x) p = let e = x.answered in absurd (omega arith)
is_taken words c k (posted x) p = let e = x.answered in absurd (omega arith)
is_taken words c k (taken x) p = x
is_taken words c k (answered x) p = let e = x.answered in absurd (omega arith)
is_taken words c k (withdrawn x) p = let e = x.answered in absurd (omega arith)

snoc_not_nil : (xs : List ℕ) (a : ℕ) → xs ++ a ∷ [] ≡ [] → ⊥
snoc_not_nil xs a e = let n = ap length e in omega (arith, length-append xs (a ∷ []))

pub unchanged : (words : List ℕ) (h : CallerHalf) (k : CalleeHalf) (i : ℕ) → Rule words h k
    → Rule (set words i (get_or words i 0)) h k
unchanged words h k i r = subst (λ (ws : List ℕ). Rule ws h k) (sym (set-get_or words i 0)) r

pub counts : (words : List ℕ) (h : CallerHalf) (k k' : CalleeHalf) → Rule words h k
    → k'.state ≡ k.state → (k'.final_posted ≡ k.final_posted) × (k'.final_taken ≡ k.final_taken)
    → (k'.told ≡ true → h.state.closed ≡ true) → Rule words h k'
counts words h k k' r same final told = record {
  wide = r.wide;
  flags = r.flags;
  narrow = r.narrow;
  stage = subst (λ (c : CalleeState). Stage words h.state c) (sym same) r.stage;
  caller_told = λ e. ap (λ (c : CalleeState). c.closed) same ∙ r.caller_told e;
  callee_told = told;
  caller_final = λ e. let old = r.caller_final e in
      (old.0, ap (λ (c : CalleeState). length c.taken) same ∙ old.1);
  callee_final =
      λ e. let old = r.callee_final (ap (λ (c : CalleeState). c.closed) (sym same) ∙ e) in
      (old.0 ∙ sym final.0, ap (λ (c : CalleeState). length c.taken) same ∙ (old.1 ∙ sym final.1));
  shown = subst (λ (c : CalleeState). (h.shown_taken ≤ length c.taken)
      × (h.shown_answered ≤ length c.answered)) (sym same) r.shown;
}

-- a store of a word of an answer
store_keeps : (words : List ℕ) (h : CallerHalf) (k : CalleeHalf) (j a : ℕ)
    → Rule words h k → IsOwing k → j ≡ 2 + length k.state.draft → j < TABLE_WORDS → a < 2 ^ 32
    → Rule (set words j a) h (callee_stored k a)
store_keeps words h k j a r p here fits small =
    let wide = r.wide in
    let x = is_taken words h.state k.state r.stage p in
    let at : j < length words = omega arith in
    record {
      wide = length-set words j a ∙ wide;
      flags = get_or-set_other words j 1 a 0 (λ e. omega arith) ∙ r.flags;
      narrow = narrow_after words j a small r.narrow at;
      stage = taken record {
        frame = x.frame;
        phase = x.phase;
        unclosed = x.unclosed;
        taken = x.taken;
        read = x.read;
        answered = x.answered;
        status = get_or-set_other words j 0 a 0 (λ e. omega arith) ∙ x.status;
        last = x.last;
        area = λ e. absurd (snoc_not_nil k.state.draft a e);
        draft = begins_more words k.state.draft j a here at x.draft;
        valid = x.valid;
      };
      caller_told = r.caller_told;
      callee_told = r.callee_told;
      caller_final = r.caller_final;
      callee_final = r.callee_final;
      shown = r.shown;
    }

pub stores_allowed : (slots id : ℕ) (me : M) (h : CalleeHalf) (j a : ℕ) → me.0.callee ≡ Some h
    → IsOwing h → j ≡ 2 + length h.state.draft → j < TABLE_WORDS → a < 2 ^ 32
    → Allows HalvesAgree slots id me j (λ _. a) (λ _. stores (step slots j a 0 none) me a)
stores_allowed slots id me h j a is p here fits small s r _ at _ = let h' = callee_stored h a in (
  with_callee me.0 h',
  keeps,
  tt,
  callee_moves s r id j a me.0 h h' at is
      (store_keeps s.words r.caller h j a (callee_known s r id me.0 h at is) p here fits small),
  λ g e. (h', refl, ap (λ (c : CalleeHalf). callee_stored c a) (ap callee_or (sym is ∙ e))),
)

-- a load of a word of the frame
pub reads_allowed : (slots id : ℕ) (me : M) (h : CalleeHalf) (j : ℕ) → me.0.callee ≡ Some h
    → IsOwing h → h.state.draft ≡ [] → 0 < j
    → Allows HalvesAgree slots id me j (λ n. n) (reads (step slots j 0 0 none) me)
reads_allowed slots id me h j is p none_yet pos s r _ at _ =
    let c = r.caller in
    let rule = callee_known s r id me.0 h at is in
    let x = is_taken s.words c.state h.state rule.stage p in
    let n : ℕ = get_or s.words j 0 in
    let h' = callee_after h 1 in
    let area : Begins s.words (frame_area h) = subst
    (λ (o : Option Frame). Begins s.words (taken_words o)) (sym x.last) (x.area none_yet) in (
      with_callee me.0 h',
      keeps,
      tt,
      callee_moves s r id j n me.0 h h' at is (unchanged s.words c h' j
          (counts s.words c h h' rule refl (refl, refl) rule.callee_told)),
      λ g e. (
        h',
        refl,
        subst (λ (z : CalleeHalf). (h' ≡ callee_after z 1) × (n < 2 ^ 32) × ((i : ℕ) → j ≡ 2 + i → i
            < length (frame_area z) → n ≡ slice_index (frame_area z) i))
            (ap callee_or (sym is ∙ e)) (
              refl,
              rule.narrow j pos,
              (λ i here lt. ap (λ (z : ℕ). get_or s.words z 0) here ∙ area i lt),
            ),
      ),
    )

-- an exchange that takes
module _ (words : List ℕ) (h : CallerHalf) (k : CalleeHalf) where
  abbrev N : ℕ
  N = get_or words 0 0

  abbrev Both : Bool
  Both = h.state.closed || k.state.closed

  mark_of : Stage words h.state k.state → (m : Mark) × (N ≡ status_word m Both)
  mark_of (idle x) = (_, x.status)
  mark_of (posted x) = (Mark.posted, x.status)
  mark_of (taken x) = (Mark.taken, x.status)
  mark_of (answered x) = (_, x.status)
  mark_of (withdrawn x) = (Mark.free, x.status)

  take_misses : Rule words h k → Rule words h (callee_looked k N)
  take_misses r =
      let m = mark_of r.stage in
      counts words h k (callee_looked k N) r refl (refl, refl)
      (told_right m.0 k.state.closed h.state.closed k.told N
      (m.1 ∙ ap (status_word m.0) (or_comm h.state.closed k.state.closed)) r.callee_told)
    where
      or_comm : (a b : Bool) → (a || b) ≡ (b || a)
      or_comm true true = refl
      or_comm true false = refl
      or_comm false true = refl
      or_comm false false = refl

  -- a status of 0 is posted, with no end closed
  take_here : (st : Stage words h.state k.state) → N ≡ 0
      → IsPosted words h.state k.state × (Both ≡ false)
  take_here (idle x) z = absurd (not_settled_zero _ Both (sym x.status ∙ z))
  take_here (posted x) z = (x, posted_zero Both (sym x.status ∙ z))
  take_here (taken x) z = absurd (not_taken_zero Both (sym x.status ∙ z))
  take_here (answered x) z = absurd (not_settled_zero (Some x.answer) Both (sym x.status ∙ z))
  take_here (withdrawn x) z = absurd (not_settled_zero None Both (sym x.status ∙ z))

  take_keeps : Rule words h k → (x : IsPosted words h.state k.state) → Both ≡ false
      → Rule (set words 0 TAKEN) h (callee_took k x.frame)
  take_keeps r x both =
      let wide = r.wide in
      let sides = or_sides h.state.closed k.state.closed both in
      let more = length-append k.state.taken (x.frame ∷ []) in
      let e = x.answered in
      let shown = r.shown in
      record {
        wide = length-set words 0 TAKEN ∙ wide;
        flags = get_or-set_other words 0 1 TAKEN 0 (λ e. omega arith) ∙ r.flags;
        narrow = narrow_status words TAKEN r.narrow;
        stage = taken record {
          frame = x.frame;
          phase = ⊎_elim
              (λ (e : h.state.phase ≡ Waiting). e)
              (⊎_elim (λ (e : h.state.phase ≡ Withdrawing). gone
              (λ w. let f : Withdrawing ≡ Waiting = sym e ∙ w in cc))
              (λ (e : h.state.phase ≡ GivenUp).
              gone (λ w. let f : GivenUp ≡ Waiting = sym e ∙ w in cc))) x.phase;
          unclosed = sides;
          taken = sym x.taken;
          read = x.read;
          answered = omega arith;
          status = get_or-set_same words 0 TAKEN 0 (omega arith)
              ∙ sym (ap (status_word Mark.taken) both);
          last = last_snoc None k.state.taken x.frame;
          area = λ _. begins_after_status words (frame_words x.frame) TAKEN x.area;
          draft = λ i lt. absurd (omega arith);
          valid = x.valid;
        };
        caller_told = r.caller_told;
        callee_told = r.callee_told;
        caller_final = λ e. absurd (let g : true ≡ false = sym e ∙ sides.0 in cc);
        callee_final = λ e. absurd (let g : true ≡ false = sym e ∙ sides.1 in cc);
        shown = (omega arith, shown.1);
      }
    where
      gone : h.state.phase ≢ Waiting → h.state.phase ≡ Waiting
      gone ne = absurd (let f : true ≡ false = sym (x.gone ne) ∙ both in cc)

pub takes_allowed : (slots id : ℕ) (me : M) (h : CalleeHalf) → me.0.callee ≡ Some h → Allows
    HalvesAgree slots id me 0 (λ n. either (eqb n 0) TAKEN n) (takes (step slots 0 0 TAKEN none) me)
takes_allowed slots id me h is s r _ at _ =
    let n : ℕ = get_or s.words 0 0 in
    let c = r.caller in
    let rule = callee_known s r id me.0 h at is in
    let same : (g : CalleeHalf) → me.0.callee ≡ Some g → h ≡ g = λ g e. ap callee_or (sym is ∙ e) in
    exchanged n 0 TAKEN (λ z. (w : View) × (a : _) × Valid s.homes me.1 a × HalvesAgree (stepped s 0
    z id me.1 w a) × takes (step slots 0 0 TAKEN none) me n (w, carried_after me.1 a))
    (λ hit. let p = take_here s.words c h rule.stage hit in let h' = callee_took h p.0.frame in (
      with_callee me.0 h',
      keeps,
      tt,
      callee_moves s r id 0 TAKEN me.0 h h' at is (take_keeps s.words c h rule p.0 p.1),
      λ g e. (
        h',
        refl,
        (
          (λ _. (
            p.0.frame,
            p.0.valid,
            ap (λ (z : CalleeHalf). callee_took z p.0.frame) (same g e),
          )),
          λ not. absurd (not hit),
        ),
      ),
    ))
    (λ miss. let h' = callee_looked h n in (
      with_callee me.0 h',
      keeps,
      tt,
      callee_moves s r id 0 n me.0 h h' at is
          (unchanged s.words c h' 0 (take_misses s.words c h rule)),
      λ g e. (
        h',
        refl,
        ((λ hit. absurd (miss hit)), λ _. ap (λ (z : CalleeHalf). callee_looked z n) (same g e)),
      ),
    ))
