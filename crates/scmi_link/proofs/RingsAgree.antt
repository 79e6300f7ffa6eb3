-- What the two ends of a pair of rings show, side by side.
use Rattle.std.proofs.Common.{◌≡◌, ◌+◌, ◌≤◌, ◌⊎◌, inl, inr, Bool, true, false, List, [], ◌∷◌, ◌++◌, length, Box, refl, sym, ap, ◌∙◌, arith, length-append}
use Rattle.std.proofs.lemmas.List.{append-nil}
use Rattle.std.proofs.lemmas.Bool.{false≢true, true≢false}
use Rattle.rtrb.specs.Ring.{sent, received}
use Rattle.std.specs.declared.alloc.Global.{Global}
use Rattle.scmi_link.specs.declared.envelope.Envelope.{Envelope}
use Rattle.scmi_link.specs.declared.note.Note.{Note}
use Rattle.scmi_link.specs.declared.caller_rings.CallerRings.{CallerRings}
use Rattle.scmi_link.specs.declared.callee_rings.CalleeRings.{CalleeRings}
use Rattle.scmi_link.specs.Envelope.{frames_in}
use Rattle.scmi_link.specs.Note.{answers_among, has_closing, ends_well}
use Rattle.scmi_link.specs.Bit.{bit}
use Rattle.scmi_link.specs.CallerRings.{caller_rings_view}
use Rattle.scmi_link.specs.CalleeRings.{callee_rings_view}
use Rattle.scmi_link.specs.Gathered.{IsAllButLast, Agree, Closed}
use Rattle.scmi_link.proofs.NoteLemmas.{frames_in-append, answers_among-append, has_closing-front, all_seen}

-- a list of length 0 adds nothing
whole : {X : Type 0} (ts ks fs : List X) → ts ++ ks ≡ fs → length ks ≡ 0 → ts ≡ fs
whole ts [] fs e h = sym (append-nil ts) ∙ e
whole ts (k ∷ ks) fs e h = absurd (omega arith)

-- a list of length 1 adds a last member
but_last : {X : Type 0} (ts ks fs : List X) → ts ++ ks ≡ fs → length ks ≡ 1 → IsAllButLast ts fs
but_last ts [] fs e h = absurd (omega arith)
but_last ts (k ∷ []) fs e h = (k, sym e)
but_last ts (k ∷ (l ∷ ks)) fs e h = absurd (omega arith)

at_most_one : {X : Type 0} (ts ks fs : List X) → ts ++ ks ≡ fs → length ks ≤ 1
    → (ts ≡ fs) ⊎ IsAllButLast ts fs
at_most_one ts [] fs e h = inl (whole ts [] fs e refl)
at_most_one ts (k ∷ ks) fs e h = inr (but_last ts (k ∷ ks) fs e (omega arith))

one_bit : (b c : Bool) → (b ≡ true → c ≡ false) → bit b + bit c ≤ 1
one_bit true true h = absurd (true≢false (h refl))
one_bit true false h = omega arith
one_bit false true h = omega arith
one_bit false false h = omega arith

unset : (b c : Bool) → (b ≡ true → c ≡ false) → c ≡ true → b ≡ false
unset true c h k = absurd (false≢true (sym (h refl) ∙ k))
unset false c h k = refl

small_bit : (b : Bool) → (bit b ≡ 0) ⊎ (bit b ≡ 1)
small_bit true = inr refl
small_bit false = inl refl

-- what was pushed into each ring is what was popped and what is in it
module _ (p : CallerRings) (q : CalleeRings) (es : List (Box Envelope Global))
    (ms : List Note) (envelopes : received q.frames ++ es ≡ sent p.frames)
    (notes : received p.answers ++ ms ≡ sent q.answers) where
  said_all : answers_among (received p.answers) ++ answers_among ms ≡ answers_among (sent q.answers)
  said_all = sym (answers_among-append (received p.answers) ms) ∙ ap answers_among notes

  note_lengths : length (answers_among (received p.answers)) + length (answers_among ms)
      ≡ length (answers_among (sent q.answers))
  note_lengths = sym (length-append (answers_among (received p.answers)) (answers_among ms))
      ∙ ap length said_all

  frames : frames_in (received q.frames) ++ frames_in es ≡ frames_in (sent p.frames)
  frames = sym (frames_in-append (received q.frames) es) ∙ ap frames_in envelopes

  frame_lengths : length (frames_in (received q.frames)) + length (frames_in es)
      ≡ length (frames_in (sent p.frames))
  frame_lengths = sym (length-append (frames_in (received q.frames)) (frames_in es))
      ∙ ap length frames

  other_closed : p.told ≡ true → q.closed ≡ true
  other_closed t = q.noted
      (ap has_closing (sym notes) ∙ has_closing-front (received p.answers) ms (sym p.heard ∙ t))

  -- once the closing note was taken, nothing is in the ring of answers
  nothing_more : p.told ≡ true → ms ≡ []
  nothing_more t = all_seen (received p.answers) ms (ap ends_well notes ∙ q.last) (sym p.heard ∙ t)

  pub agree : Agree (caller_rings_view p) (callee_rings_view q)
  agree = let few = one_bit p.waiting p.left p.one in record {
    taken = at_most_one (frames_in (received q.frames)) (frames_in es) (frames_in (sent p.frames))
        frames (omega (arith, note_lengths, frame_lengths, p.counted, q.counted));
    answered = elim (small_bit q.owing)
        [ inl z ↦ inl (omega (arith, q.counted, z)) | inr z ↦ inr (omega (arith, q.counted, z)) ];
    read = (answers_among ms, said_all);
    unread = omega (arith, p.counted);
  }

  pub closed_ends : Closed (caller_rings_view p) (callee_rings_view q)
  closed_ends = record {
    left = λ l.
        let told = p.gone l in
        let none = ap answers_among (nothing_more told) in
        let read : answers_among (received p.answers) ≡ answers_among (sent q.answers) =
        whole _ (answers_among ms) _ said_all (ap length none) in
        let idle = ap bit (unset p.waiting p.left p.one l) in
        let gave_up = ap bit l in
        let done = ap bit (q.done (other_closed told)) in (
          but_last (frames_in (received q.frames)) (frames_in es) (frames_in (sent p.frames)) frames
              (omega (
                arith,
                ap length read,
                frame_lengths,
                p.counted,
                q.counted,
                idle,
                gave_up,
                done,
              )),
          read,
        );
    idle = λ c l.
        let idle = ap bit (p.quiet c) in
        let stayed = ap bit l in (
          whole (frames_in (received q.frames)) (frames_in es) (frames_in (sent p.frames)) frames
              (omega (arith, note_lengths, frame_lengths, p.counted, q.counted, idle, stayed)),
          whole (answers_among (received p.answers))
              (answers_among ms) (answers_among (sent q.answers)) said_all
              (omega (arith, note_lengths, frame_lengths, p.counted, q.counted, idle, stayed)),
        );
    caller_told = other_closed;
    callee_told = λ h. absurd (false≢true h);
  }

-- what was seen last, of the lists at the start
pub at_start : {X : Type 0} (out out' ahead into into' : List X) → out' ≡ out → into' ≡ into
    → out' ++ ahead ≡ into' → out ++ ahead ≡ into
at_start out out' ahead into into' o i e = ap (λ xs. xs ++ ahead) (sym o) ∙ e ∙ i
