-- What a look that found an answer leaves.
use Rattle.std.proofs.Common.{◌≡◌, ℕ, ◌+◌, ◌∷◌, ◌++◌, [], false, sym, refl, ap, ◌∙◌, Option, Some, None, Bool, length, arith, length-append}
use Rattle.std.specs.List.{last_or}
use Rattle.std.proofs.lemmas.Bool.{false≢true}
use Rattle.scmi_codec.specs.declared.frame.Answer.{Answer}
use Rattle.scmi_codec.specs.declared.frame.Frame.{Frame}
use Rattle.scmi_words.specs.declared.view.CalleeHalf.{CalleeHalf}
use Rattle.scmi_words.specs.declared.phase.Phase.{Phase}
use Rattle.scmi_words.specs.declared.phase.Phase.TheVariants.{Idle, Waiting}
use Rattle.scmi_words.specs.declared.view.CallerHalf.{CallerHalf}
use Rattle.scmi_words.specs.StatusWord.{status_word, answer_mark, settled_mark}
use Rattle.scmi_words.proofs.Picks.{answer_or, frame_or}
use Rattle.scmi_words.specs.Remembers.{CallerRemembers}
use Rattle.scmi_words.specs.Phase.{unread}
use Rattle.scmi_words.specs.View.{TableSeat, CallerBecomes, HasCaller, caller_of, CalleeBecomes, callee_of}
use Rattle.scmi_words.specs.CallerSteps.{caller_collected, caller_after}
use Rattle.scmi_words.specs.CalleeSteps.{callee_took, IsOwing}
use Rattle.scmi_words.proofs.Loads.{half_is, callee_is}
use Rattle.scmi_words.proofs.TableWords.{last_snoc}

pub record Collects (t : TableSeat) (x : Answer) (r : ℕ) : Type 0 where
  pub has : HasCaller t
  pub phase : (caller_of t).state.phase ≡ Idle
  pub draft : (caller_of t).state.draft ≡ []
  pub last : last_or None (caller_of t).state.read ≡ Some x
  pub picked : answer_or (last_or None (caller_of t).state.read) ≡ x
  pub free : r ≡ status_word (answer_mark x) false

pub collected : (s t : TableSeat) (h : CallerHalf) (x : Answer) (n r : ℕ) → CallerBecomes s h t → h
    ≡ caller_collected (caller_of s) n x → r ≡ status_word (answer_mark x) false → Collects t x r
collected s t h x n r b is free = let now : caller_of t ≡ caller_collected (caller_of s) n x =
    half_is s t h b ∙ is in
    let last : last_or None (caller_of t).state.read ≡ Some x = ap (λ (z : CallerHalf).
    last_or None z.state.read) now ∙ last_snoc None (caller_of s).state.read x in
    record {
      has = ap (λ (m : Rattle.atomic_table.specs.Table.Me
          (Unit {0}) Rattle.scmi_words.specs.declared.view.View.View). m.0.caller) b.2
          ∙ ap (λ (z : CallerHalf). Some z) (sym (half_is s t h b));
      phase = ap (λ (z : CallerHalf). z.state.phase) now;
      draft = ap (λ (z : CallerHalf). z.state.draft) now;
      last = last;
      picked = ap answer_or last;
      free = free;
    }

pub remembers_after : (h h0 : CallerHalf) (now : Phase) (free : ℕ) (closed told : Bool) (n k r : ℕ)
    (x : Answer) → CallerRemembers h0 now free closed told → now ≡ Waiting
    → h ≡ caller_after (caller_collected h0 n x) k
    → r ≡ status_word (answer_mark x) false → CallerRemembers h Idle r closed told
remembers_after h h0 now free closed told n k r x was waits is status = record {
  phase = sym (ap (λ (z : CallerHalf). z.state.phase) is);
  closed = was.closed ∙ sym (ap (λ (z : CallerHalf). z.state.closed) is);
  told = was.told ∙ sym (ap (λ (z : CallerHalf). z.told) is);
  free = status ∙ (ap (λ (o : Option Answer). status_word (settled_mark o) false)
      (sym (last_snoc None h0.state.read x)) ∙ sym
      (ap (λ (z : CallerHalf). status_word (settled_mark (last_or None z.state.read)) false) is));
  draft = λ _. ap (λ (z : CallerHalf). z.state.draft) is;
  settled = refl;
  waits = λ e. absurd (let f : Idle ≡ Waiting = e in cc);
  counted = let old : length h0.state.posted ≡ length h0.state.read + 1 = was.counted
      ∙ ap (λ (z : Phase). length h0.state.read + unread z) waits in
      let a : length h.state.posted ≡ length h0.state.posted =
      ap (λ (z : CallerHalf). length z.state.posted) is in
      let b : length h.state.read ≡ length (h0.state.read ++ x ∷ []) =
      ap (λ (z : CallerHalf). length z.state.read) is in
      let e : length h.state.posted ≡ length h.state.read + 0 =
      omega (arith, length-append h0.state.read (x ∷ [])) in
      e;
  gone = λ e. absurd (false≢true e);
}

pub record Takes (t : TableSeat) (f : Frame) : Type 0 where
  pub owes : IsOwing (callee_of t)
  pub draft : (callee_of t).state.draft ≡ []
  pub last : last_or None (callee_of t).state.taken ≡ Some f
  pub picked : frame_or (last_or None (callee_of t).state.taken) ≡ f

pub took : (s t : TableSeat) (h : CalleeHalf) (f : Frame)
    → CalleeBecomes s h t → h ≡ callee_took (callee_of s) f
    → length (callee_of s).state.taken ≡ length (callee_of s).state.answered → Takes t f
took s t h f b is even = let now : callee_of t ≡ callee_took (callee_of s) f =
    callee_is s t h b ∙ is in
    let last : last_or None (callee_of t).state.taken ≡ Some f = ap (λ (z : CalleeHalf).
    last_or None z.state.taken) now ∙ last_snoc None (callee_of s).state.taken f in
    record {
      owes =
          let long = ap (λ (z : CalleeHalf). length z.state.taken) now
          ∙ length-append (callee_of s).state.taken (f ∷ []) in
          let short = ap (λ (z : CalleeHalf). length z.state.answered) now in
          omega arith;
      draft = ap (λ (z : CalleeHalf). z.state.draft) now;
      last = last;
      picked = ap frame_or last;
    }
