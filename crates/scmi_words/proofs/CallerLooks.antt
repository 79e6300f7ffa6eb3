-- A caller looks: what a load of the status keeps and tells.
use Rattle.std.proofs.Common.{◌≡◌, ◌≢◌, ℕ, ◌%◌, ◌<◌, ◌||◌, Bool, true, false, List, get_or, sym, refl, ap, ◌∙◌, subst, arith, inr, ⊎_elim, Option, Some, None}
use mathlib.Core.Option.{none}
use Rattle.std.specs.List.{last_or}
use Rattle.atomic_table.specs.Table.{Me, step, keeps, Allows}
use Rattle.scmi_words.specs.declared.phase.Phase.TheVariants.{Idle, Waiting, Withdrawing, Withdrawn, GivenUp}
use Rattle.scmi_words.specs.declared.view.CallerHalf.{CallerHalf}
use Rattle.scmi_words.specs.declared.view.CalleeHalf.{CalleeHalf}
use Rattle.scmi_words.specs.declared.view.View.{View}
use Rattle.scmi_words.specs.Area.{Begins, IsValidAnswer, settled_words}
use Rattle.scmi_words.specs.StatusWord.{Mark, status_word, answer_mark, settled_mark}
use Rattle.scmi_words.specs.Mailbox.{Rule, HalvesAgree, Stage, IsPosted, IsAnswered, idle, posted, taken, answered, withdrawn}
use Rattle.scmi_words.specs.View.{with_caller, caller_or}
use Rattle.scmi_words.specs.CallerSteps.{caller_looked, caller_saw, caller_collected, caller_gave_up, Sees, looks}
use Rattle.scmi_words.proofs.TableWords.{last_snoc}
use Rattle.scmi_words.proofs.Status.{told_right, answer_odd}
use Rattle.scmi_words.specs.declared.status_word.TheConstants.{CLOSED, TAKEN}
use Rattle.scmi_words.proofs.Views.{caller_known, caller_moves}
use Rattle.scmi_words.proofs.CallerSteps.{unchanged, counts}

abbrev M : Type 0
M = Me (Unit {0}) View

module _ (words : List ℕ) (h : CallerHalf) (k : CalleeHalf) where
  abbrev N : ℕ
  N = get_or words 0 0

  abbrev Both : Bool
  Both = h.state.closed || k.state.closed

  -- what a look leaves and tells
  abbrev Look : Type 0
  Look = (h' : CallerHalf) × Rule words h' k × (h.state.phase ≡ Waiting → Sees h N h')
      × (h.state.phase ≢ Waiting → h' ≡ caller_looked h N)

  looked_keeps : Rule words h k → (m : Mark) → N ≡ status_word m Both
      → Rule words (caller_looked h N) k
  looked_keeps r m is = counts words h (caller_looked h N) k r refl (refl, refl)
      (told_right m h.state.closed k.state.closed h.told N is r.caller_told) r.shown

  -- with nothing outstanding
  glances : Rule words h k → (m : Mark) → N ≡ status_word m Both
      → (h.state.phase ≡ Waiting → ⊥) → Look
  glances r m is idles =
      (caller_looked h N, looked_keeps r m is, (λ e. absurd (idles e)), λ _. refl)

  -- with a post outstanding, and no answer
  waits : Rule words h k → (m : Mark) → N ≡ status_word m Both → h.state.phase ≡ Waiting
      → (N % 2 ≡ 1 → ⊥) → N < CLOSED → Look
  waits r m is p even small = (
    caller_saw h N,
    counts words h (caller_saw h N) k r refl (refl, refl) r.caller_told r.shown,
    (λ _. ((λ e. absurd (even e)), (λ e. absurd (omega arith)), λ _ _. (refl, small))),
    λ no. absurd (no p),
  )

  gives_up : Rule words h k → IsPosted words h.state k.state → h.state.phase ≡ Waiting
      → Both ≡ true → Look
  gives_up r x p closed =
      let n : N ≡ CLOSED = x.status ∙ ap (status_word Mark.posted) closed in
      let h' = caller_gave_up h N in (
        h',
        record {
          wide = r.wide;
          flags = r.flags;
          narrow = r.narrow;
          stage = posted record {
            frame = x.frame;
            phase = inr (inr refl);
            gone = λ _. closed;
            unclosed = λ e. absurd (let f : GivenUp ≡ Waiting = e in cc);
            taken = x.taken;
            read = x.read;
            answered = x.answered;
            no_draft = x.no_draft;
            status = x.status;
            area = x.area;
            valid = x.valid;
          };
          caller_told =
              told_right Mark.posted h.state.closed k.state.closed h.told N x.status r.caller_told;
          callee_told = r.callee_told;
          caller_final = r.caller_final;
          callee_final = r.callee_final;
          shown = r.shown;
        },
        (λ _. (
          (λ e. absurd (let f : CLOSED % 2 ≡ 1 = ap (λ (z : ℕ). z % 2) (sym n) ∙ e in
              omega arith)),
          (λ _. refl),
          λ _ ne. absurd (ne n),
        )),
        λ no. absurd (no p),
      )

  collects : Rule words h k → IsAnswered words h.state k.state → Look
  collects r x = let h' = caller_collected h N x.answer in let m : Mark = answer_mark x.answer in
      let odd : N % 2 ≡ 1 = ap (λ (z : ℕ). z % 2) x.status ∙ answer_odd x.answer Both in
      let last : last_or None k.state.answered ≡ Some x.answer = ap (last_or None) x.read
      ∙ last_snoc None h.state.read x.answer in (
        h',
        record {
          wide = r.wide;
          flags = r.flags;
          narrow = r.narrow;
          stage = idle record {
            phase = refl;
            taken = x.taken;
            read = sym x.read;
            answered = x.answered;
            no_draft = x.no_draft;
            status = x.status ∙ ap (λ (o : Option _). status_word (settled_mark o) Both) (sym last);
            area = λ _. subst (λ (o : Option _). Begins words
                (settled_words o (last_or None k.state.taken))) (sym last) x.area;
            draft = λ i lt. absurd (omega arith);
            valid = λ y e. subst IsValidAnswer (some_is x.answer y (sym last ∙ e)) x.valid;
            valid_frame = x.valid_frame;
          };
          caller_told = r.caller_told;
          callee_told = r.callee_told;
          caller_final = r.caller_final;
          callee_final = r.callee_final;
          shown = r.shown;
        },
        (λ _. (
          (λ _. (x.answer, refl, (Both, x.status), x.valid)),
          (λ e. absurd (let f : CLOSED % 2
              ≡ 1 = ap (λ (z : ℕ). z % 2) (sym e) ∙ odd in omega arith)),
          λ ne _. absurd (ne odd),
        )),
        λ no. absurd (no x.phase),
      )
    where
      some_is : {A : Type 0} (x y : A) → Some x ≡ Some y → x ≡ y
      some_is x y e = cc

  posted_waits : Rule words h k → IsPosted words h.state k.state → h.state.phase ≡ Waiting
      → (b : Bool) → Both ≡ b → Look
  posted_waits r x p true e = gives_up r x p e
  posted_waits r x p false e =
      let n : N ≡ 0 = x.status ∙ ap (status_word Mark.posted) e in
      waits r Mark.posted x.status p (λ f. omega arith) (omega arith)

  look_at : Rule words h k → Stage words h.state k.state → Look
  look_at r (idle x) = glances r (settled_mark (last_or None k.state.answered)) x.status
      (λ e. let f : Idle ≡ Waiting = sym x.phase ∙ e in cc)
  look_at r (posted x) = ⊎_elim (λ (e : h.state.phase ≡ Waiting). posted_waits r x e Both refl)
      (⊎_elim (λ (e : h.state.phase ≡ Withdrawing). glances r Mark.posted x.status
      (λ w. let f : Withdrawing ≡ Waiting = sym e ∙ w in cc))
      (λ (e : h.state.phase ≡ GivenUp). glances r Mark.posted x.status
      (λ w. let f : GivenUp ≡ Waiting = sym e ∙ w in cc))) x.phase
  look_at r (taken x) =
      let n : N ≡ TAKEN = x.status
      ∙ (λ i. status_word Mark.taken (x.unclosed.0 i || x.unclosed.1 i)) in
      waits r Mark.taken x.status x.phase (λ f. omega arith) (omega arith)
  look_at r (answered x) = collects r x
  look_at r (withdrawn x) =
      glances r Mark.free x.status (λ e. let f : Withdrawn ≡ Waiting = sym x.phase ∙ e in cc)

pub looks_allowed : (slots id : ℕ) (me : M) (h : CallerHalf) → me.0.caller ≡ Some h
    → Allows HalvesAgree slots id me 0 (λ n. n) (looks (step slots 0 0 0 none) me)
looks_allowed slots id me h is s r _ at _ =
    let k = r.callee in
    let rule = caller_known s r id me.0 h at is in
    let t = look_at s.words h k rule rule.stage in
    let n : ℕ = get_or s.words 0 0 in (
      with_caller me.0 t.0,
      keeps,
      tt,
      caller_moves s r id 0 n me.0 h t.0 at is (unchanged s.words t.0 k 0 t.1),
      λ g e. (
        t.0,
        refl,
        subst (λ (z : CallerHalf). (z.state.phase ≡ Waiting → Sees z n t.0)
            × (z.state.phase ≢ Waiting → t.0 ≡ caller_looked z n)) (ap caller_or (sym is ∙ e))
            (t.2, t.3),
      ),
    )
