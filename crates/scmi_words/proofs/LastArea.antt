-- What the last words encode, by the rule.
use Rattle.std.proofs.Common.{◌≡◌, ℕ, zero, suc, ◌+◌, ◌%◌, ◌^◌, ◌<◌, ◌||◌, ⊎_elim, Bool, true, false, List, [], ◌∷◌, ◌++◌, length, get_or, refl, sym, ap, ◌∙◌, subst, arith, length-append, Option, Some, None, ◌-◌}
use lib.ListN.{get_or-replicate}
use Rattle.std.specs.List.{last_or}
use Rattle.scmi_codec.specs.Area.{status_at, StandsFor, StandsForAnswer}
use Rattle.scmi_codec.specs.declared.frame.Frame.{Frame}
use Rattle.scmi_codec.specs.declared.frame.Frame.TheVariants.{Good}
use Rattle.scmi_codec.specs.declared.frame.Answer.{Answer}
use Rattle.scmi_codec.specs.declared.frame.Answer.TheVariants.{Reply, Released, ChannelError}
use Rattle.scmi_words.specs.declared.phase.Phase.TheVariants.{Waiting, Withdrawing, GivenUp}
use Rattle.scmi_words.specs.declared.view.CallerState.{CallerState}
use Rattle.scmi_words.specs.declared.view.CalleeState.{CalleeState}
use Rattle.scmi_words.specs.declared.view.CallerHalf.{CallerHalf}
use Rattle.scmi_words.specs.declared.view.CalleeHalf.{CalleeHalf}
use Rattle.scmi_words.specs.Area.{Begins, IsValid, IsValidAnswer, frame_words, settled_words, fresh_words}
use Rattle.scmi_words.specs.StatusWord.{Mark, status_word, answer_mark, settled_mark}
use Rattle.scmi_words.specs.Mailbox.{Rule, Stage, idle, posted, taken, answered, withdrawn}
use Rattle.scmi_words.specs.WordImage.{StandsAtEnd, area_of, fresh_area, answer_status, untaken_status}
use Rattle.scmi_words.proofs.AreaWords.{area_size, area_status, area_word, area_reserved, area_frame, area_fresh}
use Rattle.scmi_words.proofs.CalleeSteps.{is_taken}
use Rattle.scmi_words.specs.declared.layout.TheConstants.{TABLE_WORDS, LENGTH}
use Rattle.scmi_words.proofs.TableWords.{last_snoc}

-- the standard's half of a status word
abbrev low_mark : Mark → ℕ
low_mark Mark.posted = 0
low_mark Mark.taken = 0
low_mark Mark.free = 1
low_mark Mark.error = 3
low_mark Mark.released = 1

low_word : (m : Mark) (b : Bool) → status_word m b % 2 ^ 32 ≡ low_mark m
low_word Mark.posted false = refl
low_word Mark.posted true = refl
low_word Mark.taken false = refl
low_word Mark.taken true = refl
low_word Mark.free false = refl
low_word Mark.free true = refl
low_word Mark.error false = refl
low_word Mark.error true = refl
low_word Mark.released false = refl
low_word Mark.released true = refl

low_answer : (x : Answer) → low_mark (answer_mark x) ≡ answer_status x
low_answer (Reply m) = refl
low_answer Released = refl
low_answer ChannelError = refl

some_is : {A : Type 0} (x y : A) → Some x ≡ Some y → x ≡ y
some_is x y e = cc

-- a list is not that list with one more
longer : {A : Type 0} (xs ys : List A) (x : A) → ys ≡ xs → ys ≡ xs ++ x ∷ [] → ⊥
longer xs ys x e f =
    let n : length xs ≡ length (xs ++ x ∷ []) = ap length (sym e ∙ f) in
    omega (arith, length-append xs (x ∷ []))

empty : {A : Type 0} (xs : List A) → length xs ≡ 0 → xs ≡ []
empty [] e = refl
empty (x ∷ xs) e = absurd (omega arith)

module _ (words : List ℕ) (c : CallerState) (k : CalleeState) (wide : length words ≡ TABLE_WORDS)
    (flags : get_or words 1 0 ≡ 0) (narrow : (i : ℕ) → 0 < i → get_or words i 0 < 2 ^ 32) where
  abbrev area : List ℕ
  area = area_of words

  status : (m : Mark) → get_or words 0 0 ≡ status_word m (c.closed || k.closed)
      → status_at area ≡ low_mark m
  status m e = area_status words wide narrow
      ∙ (ap (λ n. n % 2 ^ 32) e ∙ low_word m (c.closed || k.closed))

  stands : (f : Frame) (s : ℕ) → status_at area ≡ s → IsValid f → Begins words (frame_words f)
      → StandsFor area s f
  stands f s e valid b = record { status = e; frame = area_frame words wide narrow f valid b }

  stands_answer : (f : Frame) (x : Answer) → status_at area ≡ answer_status x → IsValid f
      → IsValidAnswer x → Begins words (settled_words (Some x) (Some f)) → StandsForAnswer area f x
  stands_answer f (Reply m) e valid good b = stands (Good m) 1 e good b
  stands_answer f Released e valid good b = stands f 1 e valid b
  stands_answer f ChannelError e valid good b = stands f 3 e valid b

  at_answered : Stage words c k → (f : Frame) (x : Answer) → k.taken ≡ c.posted → last_or None
      k.taken ≡ Some f → last_or None k.answered ≡ Some x → length k.answered ≡ length k.taken
      → (status_at area ≡ answer_status x) × (c.draft ≡ [] → StandsForAnswer area f x)
  at_answered (idle z) f x all lf lx even = let e : status_at area ≡ answer_status x =
      status (settled_mark (last_or None k.answered)) z.status
      ∙ (ap (λ o. low_mark (settled_mark o)) lx ∙ low_answer x) in (
        e,
        λ d. stands_answer f x e (z.valid_frame f lf) (z.valid x lx) (subst (λ (o : Option Answer
            × Option Frame). Begins words (settled_words o.0 o.1)) (λ i. (lx i, lf i)) (z.area d)),
      )
  at_answered (posted z) f x all lf lx even =
      absurd (longer k.taken c.posted z.frame (sym all) z.taken)
  at_answered (taken z) f x all lf lx even = let n = z.answered in absurd (omega arith)
  at_answered (answered z) f x all lf lx even = let last : last_or None k.answered ≡ Some z.answer =
      ap (last_or None) z.read ∙ last_snoc None c.read z.answer in
      let same : z.answer ≡ x = some_is z.answer x (sym last ∙ lx) in
      let e : status_at area ≡ answer_status x = status (answer_mark z.answer) z.status
      ∙ (ap (λ y. low_mark (answer_mark y)) same ∙ low_answer x) in (
        e,
        λ _. stands_answer f x e (z.valid_frame f lf) (subst IsValidAnswer same z.valid)
            (subst (λ (o : Answer × Option Frame). Begins words (settled_words (Some o.0) o.1))
            (λ i. (same i, lf i)) z.area),
      )
  at_answered (withdrawn z) f x all lf lx even =
      absurd (longer k.taken c.posted z.frame (sym all) z.taken)

  same_last : (f g : Frame) → c.posted ≡ k.taken ++ f ∷ [] → c.posted ≡ k.taken ++ g ∷ [] → f ≡ g
  same_last f g e e' = some_is f g
      (sym (last_snoc None k.taken f) ∙ (ap (last_or None) (sym e ∙ e') ∙ last_snoc None k.taken g))

  at_untaken : Stage words c k → (f : Frame) → c.posted ≡ k.taken ++ f ∷ []
      → StandsFor area (untaken_status c.phase) f
  at_untaken (idle z) f e = absurd (longer k.taken c.posted f (sym z.taken) e)
  at_untaken (posted z) f e = let same : z.frame ≡ f = same_last z.frame f z.taken e in
      let s : 0 ≡ untaken_status c.phase = ⊎_elim (λ (w : c.phase ≡ Waiting). ap untaken_status
      (sym w)) (⊎_elim (λ (w : c.phase ≡ Withdrawing). ap untaken_status (sym w))
      (λ (w : c.phase ≡ GivenUp). ap untaken_status (sym w))) z.phase in
      subst (λ (o : ℕ × Frame). StandsFor area o.0 o.1) (λ i. (s i, same i))
      (stands z.frame 0 (status Mark.posted z.status) z.valid z.area)
  at_untaken (taken z) f e = absurd (longer k.taken c.posted f (sym z.taken) e)
  at_untaken (answered z) f e = absurd (longer k.taken c.posted f (sym z.taken) e)
  at_untaken (withdrawn z) f e =
      let same : z.frame ≡ f = same_last z.frame f z.taken e in
      let s : 1 ≡ untaken_status c.phase = ap untaken_status (sym z.phase) in
      subst (λ (o : ℕ × Frame). StandsFor area o.0 o.1) (λ i. (s i, same i))
      (stands z.frame 1 (status Mark.free z.status) z.valid z.area)

  at_owing : Stage words c k → length k.taken ≡ length k.answered + 1 → status_at area ≡ 0
  at_owing s owes = let z = is_taken words c k s owes in status Mark.taken z.status

  zero_from : Begins words fresh_words → (i : ℕ) → 0 < i → i < TABLE_WORDS → get_or words i 0 ≡ 0
  unfolding fresh_words
  zero_from b zero pos lt = absurd (omega arith)
  zero_from b (suc zero) pos lt = flags
  zero_from b (suc (suc i)) pos lt =
      let e : 2 + i ≡ suc (suc i) = omega arith in
      ap (λ j. get_or words j 0) (sym e) ∙ (b i (omega arith)
      ∙ get_or-replicate {A = ℕ} (TABLE_WORDS - LENGTH) i 0 0 (omega arith))

  none_posted : {A : Type 0} (xs : List A) (x : A) → xs ++ x ∷ [] ≡ [] → ⊥
  none_posted xs x e =
      let n : length (xs ++ x ∷ []) ≡ 0 = ap length e in
      omega (arith, length-append xs (x ∷ []))

  at_unposted : Stage words c k → c.posted ≡ []
      → (status_at area ≡ 1) × (c.draft ≡ [] → area ≡ fresh_area)
  at_unposted (idle z) e =
      let ts : k.taken ≡ [] = z.taken ∙ e in
      let n : length k.answered ≡ 0 = z.answered ∙ ap length ts in
      let xs : k.answered ≡ [] = empty k.answered n in
      let mark : settled_mark (last_or None k.answered) ≡ Mark.free =
      ap (λ l. settled_mark (last_or None l)) xs in
      let s : status_at area ≡ 1 = status (settled_mark (last_or None k.answered)) z.status
      ∙ ap low_mark mark in (
        s,
        λ d. area_fresh words wide (sym (area_status words wide narrow) ∙ s)
            (zero_from (subst (λ (o : Option Answer × Option Frame). Begins words (settled_words o.0
            o.1)) (λ i. (last_or None (xs i), last_or None (ts i))) (z.area d))),
      )
  at_unposted (posted z) e = absurd (none_posted k.taken z.frame (sym z.taken ∙ e))
  at_unposted (taken z) e =
      let n = ap length (z.taken ∙ e) in
      let m = z.answered in
      absurd (omega arith)
  at_unposted (answered z) e =
      let n = ap length (z.taken ∙ e) in
      let m : length k.answered ≡ length (c.read ++ z.answer ∷ []) = ap length z.read in
      let l = z.answered in
      absurd (omega (arith, length-append c.read (z.answer ∷ [])))
  at_unposted (withdrawn z) e = absurd (none_posted k.taken z.frame (sym z.taken ∙ e))

  stands_at_end : Stage words c k → StandsAtEnd c k area
  stands_at_end s = record {
    size = area_size words wide narrow;
    reserved = area_reserved words wide narrow;
    flags = area_word words wide narrow 1 (omega arith) (omega arith) ∙ flags;
    answered = at_answered s;
    untaken = at_untaken s;
    owing = at_owing s;
    unposted = at_unposted s;
  }

pub last_area : (words : List ℕ) (h : CallerHalf) (k : CalleeHalf) → Rule words h k
    → StandsAtEnd h.state k.state (area_of words)
last_area words h k r = stands_at_end words h.state k.state r.wide r.flags r.narrow r.stage
