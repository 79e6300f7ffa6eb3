-- What is known of the answers of an agent that nothing has disturbed.
use Rattle.std.proofs.Common.{◌≡◌, ◌∙◌, ℕ, Bool, true, false, not, ◌||◌, List, [], ◌∷◌, ◌++◌, length, Result, Ok, Err, refl, sym, ap, subst, arith}
use Rattle.scmi_codec.specs.declared.frame.Frame.{Frame}
use Rattle.scmi_codec.specs.declared.frame.Frame.TheVariants.{Good, Malformed}
use Rattle.scmi_codec.specs.declared.frame.Answer.{Answer}
use Rattle.scmi_codec.specs.declared.frame.Answer.TheVariants.{Reply, Released, ChannelError}
use Rattle.scmi_link.specs.View.{CallerView}
use Rattle.scmi_link.specs.Calls.{Posts}
use Rattle.scmi_link.specs.declared.collected.Collected.{Collected}
use Rattle.scmi_link.specs.declared.collected.Collected.TheVariants as collected
use Rattle.scmi_link.specs.declared.post_error.PostError.{PostError}
use Rattle.scmi_link.specs.declared.post_error.PostError.TheVariants as post
use Rattle.scmi_link.specs.Lines.{answer_line}
use Rattle.scmi_ends.specs.Poll.{Waits}
use Rattle.scmi_threads.specs.Orders.{AreAnswersTo, HasAwaited, IsAnswerTo, IsUndisturbed}

fewer_posted : (fs : List Frame) (f : Frame) (rs : List Answer) → AreAnswersTo (fs ++ f ∷ []) rs
    → AreAnswersTo fs rs
fewer_posted fs f [] h = tt
fewer_posted [] f (a ∷ rs) h = tt
fewer_posted (g ∷ fs) f (a ∷ rs) h = (h.0, fewer_posted fs f rs h.1)

fewer_read : (fs : List Frame) (rs : List Answer) (a : Answer) → AreAnswersTo fs (rs ++ a ∷ [])
    → AreAnswersTo fs rs
fewer_read fs [] a h = tt
fewer_read [] (b ∷ rs) a h = tt
fewer_read (f ∷ fs) (b ∷ rs) a h = (h.0, fewer_read fs rs a h.1)

last_answer : (fs : List Frame) (f : Frame) (rs : List Answer) (a : Answer) → length fs ≡ length rs
    → AreAnswersTo (fs ++ f ∷ []) (rs ++ a ∷ []) → IsAnswerTo f a
last_answer [] f [] a e h = h.0
last_answer [] f (b ∷ rs) a e h = absurd (omega (arith, e))
last_answer (g ∷ fs) f [] a e h = absurd (omega (arith, e))
last_answer (g ∷ fs) f (b ∷ rs) a e h = last_answer fs f rs a (omega (arith, e)) h.1

first_of : (b c : Bool) → (b || c) ≡ false → b ≡ false
first_of false c h = refl
first_of true c h = h

-- what was undisturbed after a post was so before it
pub before_post : {T : Type 0} (full : Bool) (v w : CallerView) (frame : Frame)
    (r : Result T PostError) → Posts full v frame r w → IsUndisturbed w → IsUndisturbed v
before_post full v w frame (Ok done) p u = record {
  told = sym (ap (λ x. x.told) p.posted) ∙ u.told;
  answers = fewer_posted v.posted frame v.read (subst (λ fs. AreAnswersTo fs v.read) (ap (λ x.
      x.posted) p.posted) (subst (AreAnswersTo w.posted) (ap (λ x. x.read) p.posted) u.answers));
}
before_post full v w frame (Err post.Outstanding) p u = record {
  told = sym (ap (λ x. x.told) p.1) ∙ u.told;
  answers = subst (λ fs. AreAnswersTo fs v.read) (ap (λ x. x.posted) p.1)
      (subst (AreAnswersTo w.posted) (ap (λ x. x.read) p.1) u.answers);
}
before_post full v w frame (Err post.Closed) p u = record {
  told = first_of v.told (not v.closed) (sym (ap (λ x. x.told) p.1.told) ∙ u.told);
  answers = subst (λ fs. AreAnswersTo fs v.read) (ap (λ x. x.posted) p.1.told)
      (subst (AreAnswersTo w.posted) (ap (λ x. x.read) p.1.told) u.answers);
}
before_post full v w frame (Err post.Full) p u = record {
  told = sym (ap (λ x. x.told) p.same) ∙ u.told;
  answers = subst (λ fs. AreAnswersTo fs v.read) (ap (λ x. x.posted) p.same)
      (subst (AreAnswersTo w.posted) (ap (λ x. x.read) p.same) u.answers);
}
before_post full v w frame (Err post.WellFormed) p u = absurd p

-- what was undisturbed after a wait was so before it
pub before_wait : (turns : ℕ) (v w : CallerView) (r : Collected) → Waits turns v r w
    → IsUndisturbed w → IsUndisturbed v
before_wait turns v w collected.Nothing s u = record {
  told = sym (ap (λ x. x.told) s) ∙ u.told;
  answers = subst (λ fs. AreAnswersTo fs v.read) (ap (λ x. x.posted) s)
      (subst (AreAnswersTo w.posted) (ap (λ x. x.read) s) u.answers);
}
before_wait turns v w (collected.Got answer) s u = let e = s.2.read in record {
  told = sym (ap (λ x. x.told) e) ∙ u.told;
  answers = fewer_read v.posted v.read answer (subst (λ fs. AreAnswersTo fs (v.read ++ answer ∷ []))
      (ap (λ x. x.posted) e) (subst (AreAnswersTo w.posted) (ap (λ x. x.read) e) u.answers));
}
before_wait turns v w collected.Closed s u = let e = s.2.told in record {
  told = first_of v.told (not v.closed) (sym (ap (λ x. x.told) e) ∙ u.told);
  answers = subst (λ fs. AreAnswersTo fs v.read) (ap (λ x. x.posted) e)
      (subst (AreAnswersTo w.posted) (ap (λ x. x.read) e) u.answers);
}

by_answer : (command : Frame) (answer : Answer) (old : List Answer) → IsAnswerTo command answer
    → HasAwaited command (answer_line answer) old (old ++ answer ∷ [])
by_answer command (Reply m) old is = (m, refl, refl)
by_answer (Good m) ChannelError old is = (is, refl)
by_answer (Malformed len header) ChannelError old is = absurd is
by_answer (Good m) Released old is = absurd is
by_answer (Malformed len header) Released old is = absurd is

-- what an undisturbed agent that was at rest before its last post reads is the answer to it
pub answer_read : (v w : CallerView) (answer : Answer) (frames : List Frame) (command : Frame)
    → v.posted ≡ frames ++ command ∷ [] → length frames ≡ length v.read
    → w.posted ≡ v.posted → w.read ≡ v.read ++ answer ∷ [] → IsUndisturbed w
    → HasAwaited command (answer_line answer) v.read w.read
answer_read v w answer frames command posted rest same read u =
    subst (HasAwaited command (answer_line answer) v.read) (sym read) (by_answer command
    answer v.read (last_answer frames command v.read answer rest (subst (λ fs. AreAnswersTo fs
    (v.read ++ answer ∷ [])) (same ∙ posted) (subst (AreAnswersTo w.posted) read u.answers))))
