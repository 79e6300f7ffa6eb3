-- Each command has its answer.
use Rattle.std.proofs.Common.{◌≡◌, ℕ, ◌+◌, ◌==◌, Bool, true, false, List, [], ◌∷◌, ◌++◌, length, Some, None, ◌∙◌, arith, if◌then◌else◌}
use Rattle.std.specs.List.{filter_map, cons_option}
use Rattle.std.proofs.lemmas.List.{length-append}
use Rattle.scmi_codec.specs.declared.frame.Frame.{Frame}
use Rattle.scmi_codec.specs.declared.frame.Answer.{Answer}
use Rattle.scmi_plan.specs.Board.{Board}
use Rattle.scmi_core.specs.declared.event.Event.{Event}
use Rattle.scmi_core.specs.declared.event.Event.TheVariants.{Command, Advance, Sent, CommandFailed, AdvanceFailed, Restarted, Promoted, Settled, Reported}
use Rattle.scmi_core.specs.Deed.{fold_with_prefix}
use Rattle.scmi_core.specs.History.{answer_to}
use Rattle.scmi_core.specs.Reply.{failed_answer}
use Rattle.scmi_core.specs.Agents.{frame_from, frames_of, answer_for, answers_to}

module _ (board : Board) (a : ℕ) where
  if_one : (own : Bool) (f : Frame) (x : Answer) (fs : List Frame) → length (if own then x ∷ []
      else []) + length fs ≡ length (cons_option (if own then Some f else None) fs)
  if_one true f x fs = omega arith
  if_one false f x fs = omega arith

  one : (before : List Event) (e : Event) (fs : List Frame)
      → length (answer_for board a before e) + length fs ≡ length (cons_option (frame_from a e) fs)
  one before (Command b f) fs = if_one (a == b) f (answer_to board b f before) fs
  one before Advance fs = omega arith
  one before (Sent b) fs = omega arith
  one before (CommandFailed b f fault) fs = if_one (a == b) f (failed_answer f fault) fs
  one before (AdvanceFailed fault) fs = omega arith
  one before (Restarted b) fs = omega arith
  one before (Promoted place) fs = omega arith
  one before (Settled clock rate) fs = omega arith
  one before (Reported effect) fs = omega arith

  from : (before : List Event) (so_far : List Answer) (h : List Event)
      → length (fold_with_prefix (λ b xs e. xs ++ answer_for board a b e) before so_far h)
      ≡ length so_far + length (filter_map (frame_from a) h)
  unfolding fold_with_prefix
  from before so_far [] = omega arith
  from before so_far (e ∷ h) =
      let each = one before e (filter_map (frame_from a) h) in
      let counted : length
      (so_far ++ answer_for board a before e) + length (filter_map (frame_from a) h)
      ≡ length so_far + length (cons_option (frame_from a e) (filter_map (frame_from a) h))
      = omega (arith, length-append so_far (answer_for board a before e), each) in
      from (before ++ e ∷ []) (so_far ++ answer_for board a before e) h ∙ counted

  pub answers-length : (h : List Event) → length (answers_to board a h) ≡ length (frames_of a h)
  unfolding frames_of answers_to
  answers-length h =
      let none_before : 0 + length (filter_map (frame_from a) h)
      ≡ length (filter_map (frame_from a) h) = omega arith in
      from [] [] h ∙ none_before
