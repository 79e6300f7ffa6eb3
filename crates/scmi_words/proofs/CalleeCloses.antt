-- A callee answers and closes: what these keep of the rule.
use Rattle.std.proofs.Common.{◌≡◌, ℕ, ◌+◌, ◌||◌, Bool, true, false, eqb, List, [], ◌∷◌, ◌++◌, length, set, get_or, sym, refl, ap, ◌∙◌, subst, arith, length-set, length-append, get_or-set_same, get_or-set_other, bit_or, Option, Some, None}
use mathlib.Core.Option.{none}
use prog.Atomic.{either}
use Rattle.atomic_table.proofs.Lists.{exchanged}
use Rattle.std.specs.List.{last_or}
use Rattle.atomic_table.specs.Table.{Me, step, keeps, stepped, Allows, Valid, carried_after}
use Rattle.scmi_codec.specs.Header.{HeaderFields}
use Rattle.scmi_codec.specs.declared.frame.Frame.{Frame}
use Rattle.scmi_codec.specs.declared.frame.Answer.{Answer}
use Rattle.scmi_codec.specs.declared.frame.Answer.TheVariants.{Reply, Released, ChannelError}
use Rattle.scmi_words.specs.declared.view.CallerState.{CallerState}
use Rattle.scmi_words.specs.declared.view.CalleeState.{CalleeState}
use Rattle.scmi_words.specs.declared.view.CallerHalf.{CallerHalf}
use Rattle.scmi_words.specs.declared.view.CalleeHalf.{CalleeHalf}
use Rattle.scmi_words.specs.declared.view.View.{View}
use Rattle.scmi_words.specs.Area.{Begins, IsValid, IsValidAnswer, frame_words, settled_words, stored_words, answer_of}
use Rattle.scmi_words.specs.StatusWord.{Mark, status_word, answer_mark, settled_mark}
use Rattle.scmi_words.specs.Mailbox.{Rule, HalvesAgree, Stage, IsTaken, idle, posted, taken, answered, withdrawn}
use Rattle.scmi_words.specs.View.{with_callee, callee_or}
use Rattle.scmi_words.specs.CalleeSteps.{callee_answered, callee_closed, IsOwing, answers, closes}
use Rattle.scmi_words.proofs.TableWords.{begins_after_status, narrow_status}
use Rattle.scmi_words.proofs.Status.{or_closed}
use Rattle.scmi_words.specs.declared.status_word.TheConstants.{CLOSED, TAKEN}
use Rattle.scmi_words.specs.declared.layout.TheConstants.{TABLE_WORDS}
use Rattle.scmi_words.proofs.Views.{callee_known, callee_moves}
use Rattle.scmi_words.proofs.CalleeSteps.{is_taken}

abbrev M : Type 0
M = Me (Unit {0}) View

-- an answer stands after its exchange
answer_area : (words : List ℕ) (c : CallerState) (k : CalleeState) (x : Answer) (a : ℕ)
    → (t : IsTaken words c k) → k.draft ≡ stored_words x
    → Begins (set words 0 a) (settled_words (Some x) (last_or None k.taken))
answer_area words c k (Reply m) a t is =
    begins_after_status words (stored_words (Reply m)) a (subst (Begins words) is t.draft)
answer_area words c k Released a t is =
    subst (λ (o : Option Frame). Begins (set words 0 a) (settled_words (Some Released) o))
    (sym t.last) (begins_after_status words (frame_words t.frame) a (t.area is))
answer_area words c k ChannelError a t is =
    subst (λ (o : Option Frame). Begins (set words 0 a) (settled_words (Some ChannelError) o))
    (sym t.last) (begins_after_status words (frame_words t.frame) a (t.area is))

answer_keeps : (words : List ℕ) (h : CallerHalf) (k : CalleeHalf) (x : Answer) (a : ℕ)
    → Rule words h k → IsOwing k → IsValidAnswer x → k.state.draft ≡ stored_words x
    → a ≡ status_word (answer_mark x) false
    → Rule (set words 0 a) h (callee_answered k x)
answer_keeps words h k x a r owes valid is status =
    let wide = r.wide in
    let t = is_taken words h.state k.state r.stage owes in
    let more = length-append k.state.answered (x ∷ []) in
    let shown = r.shown in
    record {
      wide = length-set words 0 a ∙ wide;
      flags = get_or-set_other words 0 1 a 0 (λ e. omega arith) ∙ r.flags;
      narrow = narrow_status words a r.narrow;
      stage = answered record {
        answer = x;
        phase = t.phase;
        unclosed = t.unclosed.0;
        taken = t.taken;
        read = ap (λ l. l ++ x ∷ []) (sym t.read);
        answered = omega arith;
        no_draft = refl;
        status = get_or-set_same words 0 a 0 (omega arith)
            ∙ (status
            ∙ (λ i. status_word (answer_mark x) (sym t.unclosed.0 i || sym t.unclosed.1 i)));
        area = answer_area words h.state k.state x a t is;
        valid = valid;
        valid_frame = λ f e. subst IsValid (some_is t.frame f (sym t.last ∙ e)) t.valid;
      };
      caller_told = r.caller_told;
      callee_told = r.callee_told;
      caller_final = r.caller_final;
      callee_final = r.callee_final;
      shown = (shown.0, omega arith);
    }
  where
    some_is : (x y : Frame) → Some x ≡ Some y → x ≡ y
    some_is x y e = cc

answer_decoded : (x : Answer) → IsValidAnswer x
    → answer_of (status_word (answer_mark x) false) (stored_words x) ≡ x
answer_decoded (Reply m) l =
    ap (λ (h : HeaderFields). Reply record { header = h; payload = m.payload }) l.header
answer_decoded Released l = refl
answer_decoded ChannelError l = refl

pub answers_allowed : (slots id : ℕ) (me : M) (h : CalleeHalf) (x : Answer) (a : ℕ)
    → me.0.callee ≡ Some h → IsOwing h → IsValidAnswer x → h.state.draft ≡ stored_words x
    → a ≡ status_word (answer_mark x) false
    → Allows HalvesAgree slots id me 0 (λ n. either (eqb n TAKEN) a n)
    (answers (step slots 0 TAKEN a none) me)
answers_allowed slots id me h x a is owes valid as_stored status s r _ at _ =
    let n : ℕ = get_or s.words 0 0 in
    let c = r.caller in
    let rule = callee_known s r id me.0 h at is in
    let t = is_taken s.words c.state h.state rule.stage owes in
    let found : n ≡ TAKEN = t.status
    ∙ (λ i. status_word Mark.taken (t.unclosed.0 i || t.unclosed.1 i)) in
    let h' = callee_answered h x in
    let decoded : answer_of a h.state.draft ≡ x = (λ i. answer_of (status i) (as_stored i))
    ∙ answer_decoded x valid in
    exchanged n TAKEN a (λ z. (w : View) × (act : _) × Valid s.homes me.1 act × HalvesAgree (stepped
    s 0 z id me.1 w act) × answers (step slots 0 TAKEN a none) me n (w, carried_after me.1 act))
    (λ hit. (
      with_callee me.0 h',
      keeps,
      tt,
      callee_moves s r id 0 a me.0 h h' at is
          (answer_keeps s.words c h x a rule owes valid as_stored status),
      λ g e. (
        h',
        refl,
        subst (λ (z : CalleeHalf). h' ≡ callee_answered z (answer_of a
            z.state.draft)) (ap callee_or (sym is ∙ e)) (ap (callee_answered h) (sym decoded)),
      ),
    ))
    (λ miss. absurd (miss found))

-- a close by the or of the closed mark
or_true : (a b : Bool) → b ≡ true → (a || b) ≡ true
or_true true b e = refl
or_true false b e = e

module _ (words : List ℕ) (c : CallerState) (k : CalleeState)
    (wide : length words ≡ TABLE_WORDS) where
  abbrev Bits : ℕ
  Bits = bit_or (get_or words 0 0) CLOSED

  now_closed : (m : Mark) → get_or words 0 0 ≡ status_word m (c.closed || k.closed)
      → get_or (set words 0 Bits) 0 0 ≡ status_word m (c.closed || true)
  now_closed m is = get_or-set_same words 0 Bits 0 (omega arith)
      ∙ (ap (λ (z : ℕ). bit_or z CLOSED) is ∙ (or_closed m (c.closed || k.closed)
      ∙ ap (status_word m) (sym (or_true c.closed true refl))))

  close_stage : Stage words c k → (length k.taken ≡ length k.answered + 1 → ⊥)
      → Stage (set words 0 Bits) c (record k { closed = true })
  close_stage (idle x) done = idle record {
    phase = x.phase;
    taken = x.taken;
    read = x.read;
    answered = x.answered;
    no_draft = x.no_draft;
    status = now_closed (settled_mark (last_or None k.answered)) x.status;
    area = λ e. begins_after_status words
        (settled_words (last_or None k.answered) (last_or None k.taken)) Bits (x.area e);
    draft = begins_after_status words c.draft Bits x.draft;
    valid = x.valid;
    valid_frame = x.valid_frame;
  }
  close_stage (posted x) done = posted record {
    frame = x.frame;
    phase = x.phase;
    gone = λ _. or_true c.closed true refl;
    unclosed = x.unclosed;
    taken = x.taken;
    read = x.read;
    answered = x.answered;
    no_draft = x.no_draft;
    status = now_closed Mark.posted x.status;
    area = begins_after_status words (frame_words x.frame) Bits x.area;
    valid = x.valid;
  }
  close_stage (taken x) done = absurd (done x.answered)
  close_stage (answered x) done = answered record {
    answer = x.answer;
    phase = x.phase;
    unclosed = x.unclosed;
    taken = x.taken;
    read = x.read;
    answered = x.answered;
    no_draft = x.no_draft;
    status = now_closed (answer_mark x.answer) x.status;
    area = begins_after_status words
        (settled_words (Some x.answer) (last_or None k.taken)) Bits x.area;
    valid = x.valid;
    valid_frame = x.valid_frame;
  }
  close_stage (withdrawn x) done = withdrawn record {
    frame = x.frame;
    phase = x.phase;
    closed = x.closed;
    taken = x.taken;
    read = x.read;
    answered = x.answered;
    no_draft = x.no_draft;
    status = now_closed Mark.free x.status;
    area = begins_after_status words (frame_words x.frame) Bits x.area;
    valid = x.valid;
  }

pub closes_allowed : (slots id : ℕ) (me : M) (h : CalleeHalf) → me.0.callee ≡ Some h
    → (IsOwing h → ⊥) → Allows HalvesAgree slots id me 0 (λ n. bit_or n CLOSED)
    (closes (step slots 0 CLOSED 0 none) me)
closes_allowed slots id me h is done s r _ at _ =
    let c = r.caller in
    let rule = callee_known s r id me.0 h at is in
    let n : ℕ = get_or s.words 0 0 in
    let a : ℕ = bit_or n CLOSED in
    let h' = callee_closed h (length c.state.posted) in (
      with_callee me.0 h',
      keeps,
      tt,
      callee_moves s r id 0 a me.0 h h' at is record {
        wide = length-set s.words 0 a ∙ rule.wide;
        flags = get_or-set_other s.words 0 1 a 0 (λ e. omega arith) ∙ rule.flags;
        narrow = narrow_status s.words a rule.narrow;
        stage = close_stage s.words c.state h.state rule.wide rule.stage done;
        caller_told = λ _. refl;
        callee_told = rule.callee_told;
        caller_final = rule.caller_final;
        callee_final = λ _. (refl, refl);
        shown = rule.shown;
      },
      λ g e. (
        h',
        refl,
        (
          length c.state.posted,
          ap (λ (z : CalleeHalf). callee_closed z
              (length c.state.posted)) (ap callee_or (sym is ∙ e)),
        ),
      ),
    )
