-- A caller closes: what each kind of close keeps of the rule.
use Rattle.std.proofs.Common.{◌≡◌, ◌≢◌, ℕ, ◌+◌, ◌%◌, ◌||◌, Bool, true, false, eqb, List, length, set, get_or, sym, refl, ap, ◌∙◌, subst, arith, length-set, get_or-set_same, get_or-set_other, bit_or, ◌⊎◌, inl, inr, ⊎_elim, Some, None}
use mathlib.Core.Option.{none}
use prog.Atomic.{either}
use Rattle.atomic_table.proofs.Lists.{exchanged}
use Rattle.std.specs.List.{last_or}
use Rattle.atomic_table.specs.Table.{State, Me, step, keeps, stepped, Allows}
use Rattle.scmi_words.specs.declared.phase.Phase.TheVariants.{Idle, Waiting, Withdrawing, Withdrawn}
use Rattle.scmi_words.specs.declared.view.CallerState.{CallerState}
use Rattle.scmi_words.specs.declared.view.CalleeState.{CalleeState}
use Rattle.scmi_words.specs.declared.view.CallerHalf.{CallerHalf}
use Rattle.scmi_words.specs.declared.view.CalleeHalf.{CalleeHalf}
use Rattle.scmi_words.specs.declared.view.View.{View}
use Rattle.scmi_words.specs.Area.{frame_words}
use Rattle.scmi_words.specs.StatusWord.{Mark, status_word, settled_mark}
use Rattle.scmi_words.specs.Mailbox.{Rule, HalvesAgree, Stage, IsPosted, IsTaken, IsAnswered, idle, posted, taken, answered, withdrawn}
use Rattle.scmi_words.specs.View.{with_caller, caller_or}
use Rattle.scmi_words.specs.CallerSteps.{caller_closed, caller_withdrew, caller_saw_taken, caller_saw_answered, caller_stranded, Refuses, withdraws, closes}
use Rattle.scmi_words.proofs.TableWords.{begins_after_status, narrow_status}
use Rattle.scmi_words.proofs.Status.{or_closed, answer_odd, not_taken_zero, not_settled_zero}
use Rattle.scmi_words.specs.declared.status_word.TheConstants.{CLOSED, FREE, TAKEN}
use Rattle.scmi_words.specs.declared.layout.TheConstants.{TABLE_WORDS}
use Rattle.scmi_words.proofs.Views.{caller_known, caller_moves}
use Rattle.scmi_words.proofs.CallerSteps.{unchanged, counts}

abbrev M : Type 0
M = Me (Unit {0}) View

close_stage : (words : List ℕ) (c : CallerState) (k : CalleeState)
    → length words ≡ TABLE_WORDS → Stage words c k → (c.phase ≡ Waiting → ⊥)
    → Stage (set words 0 (bit_or (get_or words 0 0) CLOSED)) (record c { closed = true }) k
close_stage words c k wide (idle x) p =
    let m : Mark = settled_mark (last_or None k.answered) in
    let a : ℕ = bit_or (get_or words 0 0) CLOSED in
    idle record {
      phase = x.phase;
      taken = x.taken;
      read = x.read;
      answered = x.answered;
      no_draft = x.no_draft;
      status = get_or-set_same words 0 a 0 (omega arith)
          ∙ (ap (λ (z : ℕ). bit_or z CLOSED) x.status ∙ or_closed m (c.closed || k.closed));
      area = λ e. begins_after_status words _ a (x.area e);
      draft = begins_after_status words _ a x.draft;
      valid = x.valid;
      valid_frame = x.valid_frame;
    }
close_stage words c k wide (posted x) p =
    let a : ℕ = bit_or (get_or words 0 0) CLOSED in
    posted record {
      frame = x.frame;
      phase = x.phase;
      gone = λ _. refl;
      unclosed = λ e. absurd (p e);
      taken = x.taken;
      read = x.read;
      answered = x.answered;
      no_draft = x.no_draft;
      status = get_or-set_same words 0 a 0 (omega arith)
          ∙ (ap (λ (z : ℕ). bit_or z CLOSED) x.status
          ∙ or_closed Mark.posted (c.closed || k.closed));
      area = begins_after_status words _ a x.area;
      valid = x.valid;
    }
close_stage words c k wide (taken x) p = absurd (p x.phase)
close_stage words c k wide (answered x) p = absurd (p x.phase)
close_stage words c k wide (withdrawn x) p =
    let a : ℕ = bit_or (get_or words 0 0) CLOSED in
    withdrawn record {
      frame = x.frame;
      phase = x.phase;
      closed = refl;
      taken = x.taken;
      read = x.read;
      answered = x.answered;
      no_draft = x.no_draft;
      status = get_or-set_same words 0 a 0 (omega arith)
          ∙ (ap (λ (z : ℕ). bit_or z CLOSED) x.status ∙ or_closed Mark.free (c.closed || k.closed));
      area = begins_after_status words _ a x.area;
      valid = x.valid;
    }

pub plain_closes : (slots id : ℕ) (me : M) (h : CallerHalf) → me.0.caller ≡ Some h
    → (h.state.phase ≡ Waiting → ⊥)
    → Allows HalvesAgree slots id me 0 (λ n. bit_or n CLOSED)
    (closes (step slots 0 CLOSED 0 none) me)
plain_closes slots id me h is p s r _ at _ =
    let k = r.callee in
    let rule = caller_known s r id me.0 h at is in
    let n : ℕ = get_or s.words 0 0 in
    let a : ℕ = bit_or n CLOSED in
    let h' = caller_closed h (length k.state.taken) in (
      with_caller me.0 h',
      keeps,
      tt,
      caller_moves s r id 0 a me.0 h h' at is record {
        wide = length-set s.words 0 a ∙ rule.wide;
        flags = get_or-set_other s.words 0 1 a 0 (λ e. omega arith) ∙ rule.flags;
        narrow = narrow_status s.words a rule.narrow;
        stage = close_stage s.words h.state k.state rule.wide rule.stage p;
        caller_told = rule.caller_told;
        callee_told = λ _. refl;
        caller_final = λ _. (refl, refl);
        callee_final = rule.callee_final;
        shown = rule.shown;
      },
      λ g e. (
        h',
        refl,
        (
          length k.state.taken,
          ap (λ (z : CallerHalf). caller_closed z
              (length k.state.taken)) (ap caller_or (sym is ∙ e)),
        ),
      ),
    )

-- where the callee has closed, the fetch_or of both bits withdraws
strands : (words : List ℕ) (c : CallerState) (k : CalleeState) → Stage words c k
    → c.phase ≡ Withdrawing → IsPosted words c k
strands words c k (idle x) p = absurd (let f : Withdrawing ≡ Idle = sym p ∙ x.phase in cc)
strands words c k (posted x) p = x
strands words c k (taken x) p = absurd (let f : Withdrawing ≡ Waiting = sym p ∙ x.phase in cc)
strands words c k (answered x) p = absurd (let f : Withdrawing ≡ Waiting = sym p ∙ x.phase in cc)
strands words c k (withdrawn x) p = absurd (let f : Withdrawing ≡ Withdrawn = sym p ∙ x.phase in cc)

-- the frame is withdrawn
withdraw_keeps : (words : List ℕ) (h : CallerHalf) (k : CalleeHalf)
    → Rule words h k → IsPosted words h.state k.state
    → Rule (set words 0 (CLOSED + FREE)) (caller_withdrew h (length k.state.taken)) k
withdraw_keeps words h k r x = let wide = r.wide in record {
  wide = length-set words 0 (CLOSED + FREE) ∙ wide;
  flags = get_or-set_other words 0 1 (CLOSED + FREE) 0 (λ e. omega arith) ∙ r.flags;
  narrow = narrow_status words (CLOSED + FREE) r.narrow;
  stage = withdrawn record {
    frame = x.frame;
    phase = refl;
    closed = refl;
    taken = x.taken;
    read = x.read;
    answered = x.answered;
    no_draft = x.no_draft;
    status = get_or-set_same words 0 (CLOSED + FREE) 0 (omega arith);
    area = begins_after_status words (frame_words x.frame) (CLOSED + FREE) x.area;
    valid = x.valid;
  };
  caller_told = r.caller_told;
  callee_told = λ _. refl;
  caller_final = λ _. (refl, refl);
  callee_final = r.callee_final;
  shown = r.shown;
}

pub freeing_closes : (slots id : ℕ) (me : M) (h : CallerHalf) → me.0.caller ≡ Some h
    → h.state.phase ≡ Withdrawing
    → Allows HalvesAgree slots id me 0 (λ n. bit_or n (CLOSED + FREE))
    (closes (step slots 0 (CLOSED + FREE) 0 none) me)
freeing_closes slots id me h is p s r _ at _ =
    let k = r.callee in
    let rule = caller_known s r id me.0 h at is in
    let n : ℕ = get_or s.words 0 0 in
    let x = strands s.words h.state k.state rule.stage p in
    let h' = caller_withdrew h (length k.state.taken) in
    let found : n ≡ CLOSED = x.status ∙ ap (status_word Mark.posted)
    (x.gone (λ w. let f : Withdrawing ≡ Waiting = sym p ∙ w in cc)) in
    let bits : bit_or n (CLOSED + FREE) ≡ (CLOSED + FREE) =
    ap (λ (z : ℕ). bit_or z (CLOSED + FREE)) found in (
      with_caller me.0 h',
      keeps,
      tt,
      subst (λ (z : ℕ). HalvesAgree (stepped s 0 z id me.1 (with_caller me.0 h') keeps))
          (sym bits) (caller_moves s r id 0 (CLOSED + FREE) me.0 h h' at is
          (withdraw_keeps s.words h k rule x)),
      λ g e. (
        h',
        refl,
        (
          length k.state.taken,
          ap (λ (z : CallerHalf). caller_withdrew z
              (length k.state.taken)) (ap caller_or (sym is ∙ e)),
        ),
      ),
    )

pub closes_allowed : (slots id : ℕ) (me : M) (h : CallerHalf) (bits : ℕ)
    → me.0.caller ≡ Some h → ((bits ≡ CLOSED) × (h.state.phase ≢ Waiting))
    ⊎ ((bits ≡ (CLOSED + FREE)) × (h.state.phase ≡ Withdrawing))
    → Allows HalvesAgree slots id me 0 (λ n. bit_or n bits) (closes (step slots 0 bits 0 none) me)
closes_allowed slots id me h bits is why = ⊎_elim
    (λ (t : (bits ≡ CLOSED) × (h.state.phase ≢ Waiting)). subst (λ (b : ℕ).
    Allows HalvesAgree slots id me 0 (λ n. bit_or n b) (closes (step slots 0 b 0 none) me))
    (sym t.0) (plain_closes slots id me h is t.1))
    (λ (t : (bits ≡ (CLOSED + FREE)) × (h.state.phase ≡ Withdrawing)). subst (λ (b : ℕ).
    Allows HalvesAgree slots id me 0 (λ n. bit_or n b) (closes (step slots 0 b 0 none) me))
    (sym t.0) (freeing_closes slots id me h is t.1)) why

-- an exchange that withdraws
module _ (words : List ℕ) (h : CallerHalf) (k : CalleeHalf) (waits : h.state.phase ≡ Waiting) where
  abbrev Refused : Type 0
  Refused = (h' : CallerHalf) × Rule words h' k × Refuses h (get_or words 0 0) h'

  sees_taken : Rule words h k → IsTaken words h.state k.state → Refused
  sees_taken r x =
      let h' = caller_saw_taken h in
      let n : get_or words 0 0 ≡ TAKEN = x.status
      ∙ (λ i. status_word Mark.taken (x.unclosed.0 i || x.unclosed.1 i)) in
      let e = ap length x.taken in
      let f = x.answered in
      let shown = r.shown in (
        h',
        counts words h h' k r refl (refl, refl) r.caller_told (omega arith, shown.1),
        inl (n, refl, omega arith),
      )

  sees_answered : Rule words h k → IsAnswered words h.state k.state → Refused
  sees_answered r x =
      let h' = caller_saw_answered h in
      let odd : get_or words 0 0 % 2 ≡ 1 = ap (λ (z : ℕ). z % 2) x.status
      ∙ answer_odd x.answer (h.state.closed || k.state.closed) in
      let e = ap length x.taken in
      let f = x.answered in (
        h',
        counts words h h' k r refl (refl, refl) r.caller_told (omega arith, omega arith),
        inr (inl (odd, refl)),
      )

  sees_stranded : Rule words h k → (x : IsPosted words h.state k.state) → (b : Bool)
      → k.state.closed ≡ b → get_or words 0 0 ≢ 0 → Refused
  sees_stranded r x false e ne =
      absurd (ne (x.status ∙ (λ i. status_word Mark.posted (x.unclosed waits i || e i))))
  sees_stranded r x true e ne =
      let h' = caller_stranded h in
      let both : (h.state.closed || k.state.closed) ≡ true = (λ i. x.unclosed waits i || e i) in (
        h',
        record {
          wide = r.wide;
          flags = r.flags;
          narrow = r.narrow;
          stage = posted record {
            frame = x.frame;
            phase = inr (inl refl);
            gone = λ _. both;
            unclosed = λ w. absurd (let f : Withdrawing ≡ Waiting = w in cc);
            taken = x.taken;
            read = x.read;
            answered = x.answered;
            no_draft = x.no_draft;
            status = x.status;
            area = x.area;
            valid = x.valid;
          };
          caller_told = r.caller_told;
          callee_told = r.callee_told;
          caller_final = r.caller_final;
          callee_final = r.callee_final;
          shown = r.shown;
        },
        inr (inr (x.status ∙ ap (status_word Mark.posted) both, refl)),
      )

  refused_at : Rule words h k → Stage words h.state k.state → get_or words 0 0 ≢ 0 → Refused
  refused_at r (idle x) ne = absurd (let f : Waiting ≡ Idle = sym waits ∙ x.phase in cc)
  refused_at r (posted x) ne = sees_stranded r x k.state.closed refl ne
  refused_at r (taken x) ne = sees_taken r x
  refused_at r (answered x) ne = sees_answered r x
  refused_at r (withdrawn x) ne = absurd (let f : Waiting ≡ Withdrawn = sym waits ∙ x.phase in cc)

  at_zero : Stage words h.state k.state → get_or words 0 0 ≡ 0 → IsPosted words h.state k.state
  at_zero (idle x) z = absurd (let f : Waiting ≡ Idle = sym waits ∙ x.phase in cc)
  at_zero (posted x) z = x
  at_zero (taken x) z =
      absurd (not_taken_zero (h.state.closed || k.state.closed) (sym x.status ∙ z))
  at_zero (answered x) z = absurd
      (not_settled_zero (Some x.answer) (h.state.closed || k.state.closed) (sym x.status ∙ z))
  at_zero (withdrawn x) z = absurd (let f : Waiting ≡ Withdrawn = sym waits ∙ x.phase in cc)

pub withdraws_allowed : (slots id : ℕ) (me : M) (h : CallerHalf) → me.0.caller ≡ Some h
    → h.state.phase ≡ Waiting
    → Allows HalvesAgree slots id me 0 (λ n. either (eqb n 0) (CLOSED + FREE) n)
    (withdraws (step slots 0 0 (CLOSED + FREE) none) me)
withdraws_allowed slots id me h is p s r _ at _ =
    let n : ℕ = get_or s.words 0 0 in
    let k = r.callee in
    let rule = caller_known s r id me.0 h at is in
    let same : (g : CallerHalf) → me.0.caller ≡ Some g → h ≡ g = λ g e. ap caller_or (sym is ∙ e) in
    exchanged n 0 (CLOSED + FREE) (λ z. (w : View) × (a : _) × Rattle.atomic_table.specs.Table.Valid
    s.homes me.1 a × HalvesAgree (stepped s 0 z id me.1 w a) × withdraws (step slots 0 0
    (CLOSED + FREE) none) me n (w, Rattle.atomic_table.specs.Table.carried_after me.1 a))
    (λ hit. let h' = caller_withdrew h (length k.state.taken) in (
      with_caller me.0 h',
      keeps,
      tt,
      caller_moves s r id 0 (CLOSED + FREE) me.0 h h' at is
          (withdraw_keeps s.words h k rule (at_zero s.words h k p rule.stage hit)),
      λ g e. (
        h',
        refl,
        (
          (λ _. (
            length k.state.taken,
            ap (λ (z : CallerHalf). caller_withdrew z
                (length k.state.taken)) (same g e),
          )),
          λ not. absurd (not hit),
        ),
      ),
    ))
    (λ miss. let t = refused_at s.words h k p rule rule.stage miss in (
      with_caller me.0 t.0,
      keeps,
      tt,
      caller_moves s r id 0 n me.0 h t.0 at is (unchanged s.words t.0 k 0 t.1),
      λ g e. (
        t.0,
        refl,
        (
          (λ hit. absurd (miss hit)),
          λ _. subst (λ (z : CallerHalf). Refuses z n t.0) (same g e) t.2,
        ),
      ),
    ))
