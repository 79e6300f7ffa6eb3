-- The caller's steps keep the rule.
use Rattle.std.proofs.Common.{◌≡◌, ℕ, ◌+◌, ◌<◌, ◌≤◌, ◌^◌, ◌||◌, Bool, true, false, eqb, List, [], ◌∷◌, ◌++◌, length, set, get_or, slice_index, sym, refl, ap, ◌∙◌, subst, arith, length-set, length-append, get_or-set_same, get_or-set_other, inl, ⊎_elim, Some, None}
use mathlib.Core.Option.{none}
use lib.Seq.{set-get_or}
use prog.Atomic.{either}
use Rattle.atomic_table.proofs.Lists.{exchanged}
use Rattle.std.specs.List.{last_or}
use Rattle.atomic_table.specs.Table.{State, Me, step, keeps, stepped, Allows}
use Rattle.scmi_words.specs.declared.phase.Phase.TheVariants.{Idle, Waiting, Withdrawing, Withdrawn, GivenUp}
use Rattle.scmi_words.specs.declared.view.CallerState.{CallerState}
use Rattle.scmi_words.specs.declared.view.CalleeState.{CalleeState}
use Rattle.scmi_words.specs.declared.view.CallerHalf.{CallerHalf}
use Rattle.scmi_words.specs.declared.view.CalleeHalf.{CalleeHalf}
use Rattle.scmi_words.specs.declared.view.View.{View}
use Rattle.scmi_words.specs.Area.{Begins, IsValid, frame_words, frame_in, settled_words}
use Rattle.scmi_words.specs.StatusWord.{Mark, status_word, settled_mark}
use Rattle.scmi_words.specs.Mailbox.{Rule, HalvesAgree, Stage, IsIdle, idle, posted, taken, answered, withdrawn}
use Rattle.scmi_words.specs.View.{with_caller, caller_or}
use Rattle.scmi_words.specs.CallerSteps.{caller_after, caller_stored, caller_posted, caller_refused, answer_area, stores, posts, reads}
use Rattle.scmi_codec.specs.declared.frame.Frame.{Frame}
use Rattle.scmi_words.proofs.FrameWords.{frame_of_words}
use Rattle.scmi_words.proofs.TableWords.{begins_more, begins_after_status, narrow_after, narrow_status}
use Rattle.scmi_words.proofs.Status.{same_bit}
use Rattle.scmi_words.specs.declared.layout.TheConstants.{TABLE_WORDS}
use Rattle.scmi_words.proofs.Views.{caller_known, caller_moves}

abbrev M : Type 0
M = Me (Unit {0}) View

pub is_idle : (words : List ℕ) (c : CallerState) (k : CalleeState) → Stage words c k
    → c.phase ≡ Idle → IsIdle words c k
is_idle words c k (idle x) p = x
is_idle words c k (posted x) p = absurd (⊎_elim (λ (e : c.phase ≡ Waiting). let f : Idle ≡ Waiting =
    sym p ∙ e in cc) (⊎_elim (λ (e : c.phase ≡ Withdrawing). let f : Idle ≡ Withdrawing = sym p
    ∙ e in cc) (λ (e : c.phase ≡ GivenUp). let f : Idle ≡ GivenUp = sym p ∙ e in cc)) x.phase)
is_idle words c k (taken x) p = absurd (let f : Idle ≡ Waiting = sym p ∙ x.phase in cc)
is_idle words c k (answered x) p = absurd (let f : Idle ≡ Waiting = sym p ∙ x.phase in cc)
is_idle words c k (withdrawn x) p = absurd (let f : Idle ≡ Withdrawn = sym p ∙ x.phase in cc)

snoc_not_nil : (xs : List ℕ) (a : ℕ) → xs ++ a ∷ [] ≡ [] → ⊥
snoc_not_nil xs a e = let n = ap length e in omega (arith, length-append xs (a ∷ []))

store_keeps : (words : List ℕ) (h : CallerHalf) (k : CalleeHalf) (j a : ℕ) → Rule words h k
    → h.state.phase ≡ Idle → j ≡ 2 + length h.state.draft → j < TABLE_WORDS → a < 2 ^ 32
    → Rule (set words j a) (caller_stored h a) k
store_keeps words h k j a r p here fits small =
    let wide = r.wide in
    let x = is_idle words h.state k.state r.stage p in
    let at : j < length words = omega arith in
    record {
      wide = length-set words j a ∙ wide;
      flags = get_or-set_other words j 1 a 0 (λ e. omega arith) ∙ r.flags;
      narrow = narrow_after words j a small r.narrow at;
      stage = idle record {
        phase = x.phase;
        taken = x.taken;
        read = x.read;
        answered = x.answered;
        no_draft = x.no_draft;
        status = get_or-set_other words j 0 a 0 (λ e. omega arith) ∙ x.status;
        area = λ e. absurd (snoc_not_nil h.state.draft a e);
        draft = begins_more words h.state.draft j a here at x.draft;
        valid = x.valid;
        valid_frame = x.valid_frame;
      };
      caller_told = r.caller_told;
      callee_told = r.callee_told;
      caller_final = r.caller_final;
      callee_final = r.callee_final;
      shown = r.shown;
    }

pub stores_allowed : (slots id : ℕ) (me : M) (h : CallerHalf) (j a : ℕ) → me.0.caller ≡ Some h
    → h.state.phase ≡ Idle → j ≡ 2 + length h.state.draft → j < TABLE_WORDS → a < 2 ^ 32
    → Allows HalvesAgree slots id me j (λ _. a) (λ _. stores (step slots j a 0 none) me a)
stores_allowed slots id me h j a is p here fits small s r _ at _ = let h' = caller_stored h a in (
  with_caller me.0 h',
  keeps,
  tt,
  caller_moves s r id j a me.0 h h' at is
      (store_keeps s.words h r.callee j a (caller_known s r id me.0 h at is) p here fits small),
  λ g e. (h', refl, ap (λ (c : CallerHalf). caller_stored c a) (ap caller_or (sym is ∙ e))),
)

-- the rule after a step that writes what it found
pub unchanged : (words : List ℕ) (h : CallerHalf) (k : CalleeHalf) (i : ℕ) → Rule words h k
    → Rule (set words i (get_or words i 0)) h k
unchanged words h k i r = subst (λ (ws : List ℕ). Rule ws h k) (sym (set-get_or words i 0)) r

-- a step that changes what the caller's half counts and was told
pub counts : (words : List ℕ) (h h' : CallerHalf) (k : CalleeHalf) → Rule words h k
    → h'.state ≡ h.state → (h'.final_posted ≡ h.final_posted) × (h'.final_taken ≡ h.final_taken)
    → (h'.told ≡ true → k.state.closed ≡ true)
    → (h'.shown_taken ≤ length k.state.taken) × (h'.shown_answered ≤ length k.state.answered)
    → Rule words h' k
counts words h h' k r same final told shown = record {
  wide = r.wide;
  flags = r.flags;
  narrow = r.narrow;
  stage = subst (λ (c : CallerState). Stage words c k.state) (sym same) r.stage;
  caller_told = told;
  callee_told = λ e. ap (λ (c : CallerState). c.closed) same ∙ r.callee_told e;
  caller_final =
      λ e. let old = r.caller_final (ap (λ (c : CallerState). c.closed) (sym same) ∙ e) in
      (ap (λ (c : CallerState). length c.posted) same ∙ (old.0 ∙ sym final.0), old.1 ∙ sym final.1);
  callee_final = λ e. let old = r.callee_final e in
      (ap (λ (c : CallerState). length c.posted) same ∙ old.0, old.1);
  shown = shown;
}

post_keeps : (words : List ℕ) (h : CallerHalf) (k : CalleeHalf) → Rule words h k
    → h.state.phase ≡ Idle → h.state.closed ≡ false → k.state.closed ≡ false
    → (f : Frame) → h.state.draft ≡ frame_words f → IsValid f
    → Rule (set words 0 0) (caller_posted h f) k
post_keeps words h k r p mine other f as_frame valid =
    let wide = r.wide in
    let x = is_idle words h.state k.state r.stage p in
    record {
      wide = length-set words 0 0 ∙ wide;
      flags = get_or-set_other words 0 1 0 0 (λ e. omega arith) ∙ r.flags;
      narrow = narrow_status words 0 r.narrow;
      stage = posted record {
        frame = f;
        phase = inl refl;
        gone = λ ne. absurd (ne refl);
        unclosed = λ _. mine;
        taken = ap (λ l. l ++ f ∷ []) (sym x.taken);
        read = x.read;
        answered = x.answered;
        no_draft = x.no_draft;
        status = get_or-set_same words 0 0 0 (omega arith) ∙ sym
            (ap (λ (b : Bool × Bool). status_word Mark.posted (b.0 || b.1))
            (λ i. (mine i, other i)));
        area = begins_after_status words (frame_words f) 0 (subst (Begins words) as_frame x.draft);
        valid = valid;
      };
      caller_told = r.caller_told;
      callee_told = r.callee_told;
      caller_final = λ e. absurd (let g : true ≡ false = sym e ∙ mine in cc);
      callee_final = λ e. absurd (let g : true ≡ false = sym e ∙ other in cc);
      shown = r.shown;
    }

pub posts_allowed : (slots id : ℕ) (me : M) (h : CallerHalf) (old : ℕ) → me.0.caller ≡ Some h
    → h.state.phase ≡ Idle → h.state.closed ≡ false
    → old ≡ status_word (settled_mark (last_or None h.state.read)) false → (f : Frame)
    → h.state.draft ≡ frame_words f → IsValid f
    → Allows HalvesAgree slots id me 0 (λ n. either (eqb n old) 0 n)
    (posts (step slots 0 old 0 none) me)
posts_allowed slots id me h old is p mine expected f as_frame valid s r _ at _ =
    let n : ℕ = get_or s.words 0 0 in
    let k = r.callee in
    let rule = caller_known s r id me.0 h at is in
    let x = is_idle s.words h.state k.state rule.stage p in
    let m : Mark = settled_mark (last_or None h.state.read) in
    let status : n ≡ status_word m k.state.closed = x.status ∙ (λ i. status_word
    (settled_mark (last_or None (sym x.read i))) (mine i || k.state.closed)) in
    let same : (g : CallerHalf) → me.0.caller ≡ Some g → h ≡ g = λ g e. ap caller_or (sym is ∙ e) in
    let posted_same : (g : CallerHalf)
    → h ≡ g → caller_posted h f ≡ caller_posted g (frame_in g.state.draft) = λ g e.
    subst (λ (z : CallerHalf). caller_posted h f ≡ caller_posted z (frame_in z.state.draft)) e
    (ap (caller_posted h) (sym (ap frame_in as_frame ∙ frame_of_words f valid))) in
    exchanged n old 0 (λ z. (w : View) × (a : _) × Rattle.atomic_table.specs.Table.Valid s.homes
    me.1 a × HalvesAgree (stepped s 0 z id me.1 w a) × posts (step slots 0 old 0 none) me n
    (w, Rattle.atomic_table.specs.Table.carried_after me.1 a))
    (λ hit. (
      with_caller me.0 (caller_posted h f),
      keeps,
      tt,
      caller_moves s r id 0 0 me.0 h (caller_posted h f) at is (post_keeps s.words h k rule p mine
          (same_bit m k.state.closed (sym status ∙ (hit ∙ expected))) f as_frame valid),
      λ g e. (caller_posted h f, refl, ((λ _. posted_same g (same g e)), λ not. absurd (not hit))),
    ))
    (λ miss. (
      with_caller me.0 (caller_refused h),
      keeps,
      tt,
      caller_moves s r id 0 n me.0 h (caller_refused h) at is
          (unchanged s.words (caller_refused h) k 0
          (counts s.words h
          (caller_refused h) k rule refl (refl, refl) (λ _. must_be_closed k.state.closed
          (λ e. miss (status ∙ (ap (status_word m) e ∙ sym expected)))) rule.shown)),
      λ g e. (
        caller_refused h,
        refl,
        ((λ hit. absurd (miss hit)), λ _. ap caller_refused (same g e)),
      ),
    ))
  where
    must_be_closed : (b : Bool) → (b ≡ false → ⊥) → b ≡ true
    must_be_closed true f = refl
    must_be_closed false f = absurd (f refl)

-- a load of the area before the caller's first store
pub reads_allowed : (slots id : ℕ) (me : M) (h : CallerHalf) (j : ℕ) → me.0.caller ≡ Some h
    → h.state.phase ≡ Idle → h.state.draft ≡ [] → 0 < j
    → Allows HalvesAgree slots id me j (λ n. n) (reads (step slots j 0 0 none) me)
reads_allowed slots id me h j is p none_yet pos s r _ at _ =
    let k = r.callee in
    let rule = caller_known s r id me.0 h at is in
    let x = is_idle s.words h.state k.state rule.stage p in
    let n : ℕ = get_or s.words j 0 in
    let h' = caller_after h 1 in
    let area : Begins s.words (answer_area h) = subst (Begins s.words) (λ i. settled_words
    (last_or None (sym x.read i)) (last_or None (x.taken i))) (x.area none_yet) in (
      with_caller me.0 h',
      keeps,
      tt,
      caller_moves s r id j n me.0 h h' at is (unchanged s.words h' k j
          (counts s.words h h' k rule refl (refl, refl) rule.caller_told rule.shown)),
      λ g e. (
        h',
        refl,
        subst (λ (z : CallerHalf). (h' ≡ caller_after z 1) × (n < 2 ^ 32) × ((i : ℕ)
            → j ≡ 2 + i → i < length (answer_area z) → n ≡ slice_index (answer_area z) i))
            (ap caller_or (sym is ∙ e)) (
              refl,
              rule.narrow j pos,
              (λ i here lt. ap (λ (z : ℕ). get_or s.words z 0) here ∙ area i lt),
            ),
      ),
    )
