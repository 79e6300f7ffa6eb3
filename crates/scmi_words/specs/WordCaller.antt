-- What a contract sees of the caller's end of a word channel.
use Rattle.std.specs.Prelude.{◌≡◌, ℕ, ◌+◌, ◌%◌, ◌<◌, ◌≤◌, Bool, cond, List, [], length, Result, Ok, Err}
use Rattle.scmi_codec.specs.declared.frame.Frame.{Frame}
use Rattle.scmi_link.specs.View.{CallerView, IsOutstanding, knows_close}
use Rattle.scmi_link.specs.Steps.{CallerCall, call_post, call_collect, call_close}
use Rattle.scmi_link.specs.declared.post_error.PostError.{PostError}
use Rattle.scmi_link.specs.declared.post_error.PostError.TheVariants as refused
use Rattle.scmi_link.specs.declared.closing.Closing.{Closing}
use Rattle.scmi_link.specs.declared.closing.Closing.TheVariants as closing
use Rattle.scmi_link.specs.declared.close_error.CloseError.{CloseError}
use Rattle.scmi_link.specs.declared.close_error.CloseError.TheVariants.{InService, ReplyWaiting}
use Rattle.scmi_link.specs.declared.collected.Collected.{Collected}
use Rattle.scmi_link.specs.declared.collected.Collected.TheVariants.{Nothing, Got, Closed}
use Rattle.scmi_words.specs.declared.phase.Phase.TheVariants.{Withdrawn}
use Rattle.scmi_words.specs.declared.status_word.TheConstants.{CLOSED}
use Rattle.scmi_words.specs.declared.view.CallerHalf.{CallerHalf}
use Rattle.scmi_words.specs.declared.word_caller.WordCaller.{WordCaller}
use Rattle.scmi_words.specs.Area.{frame_steps, answer_steps}
use Rattle.scmi_words.specs.Phase.{is_left}
use Rattle.scmi_words.specs.View.{caller_of}
use Rattle.scmi_words.specs.WordChannel.{table_identity}

-- what the caller has done, and how many steps that took
abbrev pub caller_half : WordCaller → CallerHalf
caller_half caller = caller_of caller.seat

-- what the caller has done, as every channel shows it
abbrev pub word_caller_view : WordCaller → CallerView
word_caller_view caller = record {
  posted = (caller_half caller).state.posted;
  read = (caller_half caller).state.read;
  closed = caller.closed;
  told = caller.told;
  left = is_left caller.phase;
  posts = caller.posts;
  collects = caller.collects;
}

-- the identity of the channel that made it
abbrev pub word_caller_identity : WordCaller → List ℕ
word_caller_identity caller = table_identity caller.seat.table_id

-- no word is stored that was not posted
abbrev pub HasNoDraft : WordCaller → Type 0
HasNoDraft caller = (caller_half caller).state.draft ≡ []

-- the last post was withdrawn
abbrev pub IsWithdrawn : WordCaller → Type 0
IsWithdrawn caller = (caller_half caller).state.phase ≡ Withdrawn

-- how many accesses a post makes: none where it was refused before its first store, as what the
-- caller knew forbade it
abbrev pub post_steps : Bool → Frame → Result (Unit {0}) PostError → ℕ
post_steps knew frame (Ok done) = frame_steps frame
post_steps knew frame (Err refused.Closed) = cond knew 0 (frame_steps frame)
post_steps knew frame (Err _) = 0

-- how many accesses a collect makes: none where the caller knew of a close
abbrev pub collect_steps : Bool → Collected → ℕ
collect_steps knew Nothing = 1
collect_steps knew (Got x) = answer_steps x
collect_steps knew Closed = cond knew 0 1

-- how many accesses a close makes, at most: none where the end had closed, and two only where it
-- withdraws
abbrev pub close_steps : Bool → Result Closing CloseError → ℕ
close_steps had_closed (Ok closing.Withdrawn) = cond had_closed 0 2
close_steps had_closed _ = cond had_closed 0 1

-- how many accesses a call of the caller makes
abbrev pub word_caller_steps : WordCaller → CallerCall → WordCaller → Type 0
word_caller_steps old (call_post frame result) new = (caller_half new).steps
    ≡ (caller_half old).steps + post_steps (knows_close (word_caller_view old)) frame result
word_caller_steps old (call_collect result) new = (caller_half new).steps
    ≡ (caller_half old).steps + collect_steps (knows_close (word_caller_view old)) result
word_caller_steps old (call_close result) new =
    (caller_half new).steps ≤ (caller_half old).steps + close_steps old.closed result

-- one look was made, which saw no closed mark, and with a post outstanding a channel that is not
-- free
pub record SawNothing (old new : WordCaller) : Type 0 where
  pub looked : (caller_half new).looks ≡ (caller_half old).looks + 1
  pub unclosed : (caller_half new).saw < CLOSED
  pub busy : IsOutstanding (word_caller_view old) → (caller_half new).saw % 2 ≡ 0

-- why a collect gives nothing
abbrev pub WhyNothing : WordCaller → Collected → WordCaller → Type 0
WhyNothing old Nothing new = SawNothing old new
WhyNothing old _ new = Unit {0}

-- what a close shows: a withdrawal, the phase for which the area has status 1 and the frame; a
-- refusal, that the last post was taken and no answer to it shown, or that it was answered
abbrev pub CloseShows : WordCaller → Result Closing CloseError → Type 0
CloseShows caller (Ok closing.Idle) = Unit {0}
CloseShows caller (Ok closing.Withdrawn) = IsWithdrawn caller
CloseShows caller (Err InService) =
    ((caller_half caller).shown_taken ≡ length (caller_half caller).state.posted)
    × ((caller_half caller).shown_answered < length (caller_half caller).state.posted)
CloseShows caller (Err ReplyWaiting) =
    (caller_half caller).shown_answered ≡ length (caller_half caller).state.posted
