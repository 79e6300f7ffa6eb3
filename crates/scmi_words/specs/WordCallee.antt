-- What a contract sees of the callee's end of a word channel.
use Rattle.std.specs.Prelude.{◌≡◌, ◌≢◌, ◌⊎◌, ◌||◌, ℕ, ◌+◌, Bool, cond, true, List, Option, Some, None}
use Rattle.scmi_codec.specs.declared.frame.Frame.{Frame}
use Rattle.scmi_link.specs.View.{CalleeView, Owes, callee_knows_close}
use Rattle.scmi_link.specs.Steps.{CalleeCall, call_take, call_answer, call_close_callee}
use Rattle.scmi_words.specs.declared.status_word.TheConstants.{POSTED}
use Rattle.scmi_words.specs.declared.view.CalleeHalf.{CalleeHalf}
use Rattle.scmi_words.specs.declared.word_callee.WordCallee.{WordCallee}
use Rattle.scmi_words.specs.Area.{frame_steps, answer_steps}
use Rattle.scmi_words.specs.View.{callee_of}
use Rattle.scmi_words.specs.WordChannel.{table_identity}

-- what the callee has done, and how many steps that took
abbrev pub callee_half : WordCallee → CalleeHalf
callee_half callee = callee_of callee.seat

-- what the callee has done, as every channel shows it
abbrev pub word_callee_view : WordCallee → CalleeView
word_callee_view callee = record {
  taken = (callee_half callee).state.taken;
  answered = (callee_half callee).state.answered;
  closed = callee.closed;
  told = callee.told;
  takes = callee.takes;
}

-- the identity of the channel that made it
abbrev pub word_callee_identity : WordCallee → List ℕ
word_callee_identity callee = table_identity callee.seat.table_id

-- how many accesses a take makes: none where the callee owed an answer or knew of a close
abbrev pub take_steps : Bool → Option Frame → ℕ
take_steps bars (Some f) = frame_steps f
take_steps bars None = cond bars 0 1

-- how many accesses a close makes: none where it is refused, or the end had closed
abbrev pub close_callee_steps : Bool → Bool → ℕ
close_callee_steps owed had_closed = cond (owed || had_closed) 0 1

-- how many accesses a call of the callee makes
abbrev pub word_callee_steps : WordCallee → CalleeCall → WordCallee → Type 0
word_callee_steps old (call_take result) new = (callee_half new).steps ≡ (callee_half old).steps
    + take_steps (old.owes || callee_knows_close (word_callee_view old)) result
word_callee_steps old (call_answer answer) new =
    (callee_half new).steps ≡ (callee_half old).steps + answer_steps answer
word_callee_steps old (call_close_callee result) new =
    (callee_half new).steps ≡ (callee_half old).steps + close_callee_steps old.owes old.closed

-- one look was made, which saw another status than posted
pub record SawUnposted (old new : CalleeHalf) : Type 0 where
  pub looked : new.looks ≡ old.looks + 1
  pub unposted : new.saw ≢ POSTED

-- why a take gives nothing: before it an answer was owed, or the end had closed or knew of the
-- caller's close; or one look of it saw another status than posted
abbrev pub WhyNone : WordCallee → Option Frame → WordCallee → Type 0
WhyNone old (Some f) new = Unit {0}
WhyNone old None new = Owes (word_callee_view old) ⊎ ((callee_knows_close (word_callee_view old)
    ≡ true) ⊎ SawUnposted (callee_half old) (callee_half new))
