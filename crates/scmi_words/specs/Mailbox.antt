-- The rule of the table, between any two steps.
--
-- Its clauses: what the status says in each stage, with the closed mark if and only if an end has
-- closed; who may store; what the words from the length on encode; that flags are 0; that nothing
-- is posted or taken once an end has closed; and in each stage how the four lists of the channel
-- agree.
use Rattle.std.specs.Prelude.{◌≡◌, ◌≢◌, ℕ, ◌+◌, ◌^◌, ◌<◌, ◌≤◌, ◌⊎◌, ◌||◌, true, false, List, [], ◌∷◌, ◌++◌, length, slice_index, Some, None}
use Rattle.std.specs.List.{last_or}
use lib.ListN.{get_elem?}
use mathlib.Core.Option.{some}
use Rattle.atomic_table.specs.Table.{State}
use Rattle.scmi_codec.specs.declared.frame.Frame.{Frame}
use Rattle.scmi_codec.specs.declared.frame.Answer.{Answer}
use Rattle.scmi_words.specs.declared.layout.TheConstants.{STATUS, FLAGS, TABLE_WORDS}
use Rattle.scmi_words.specs.declared.phase.Phase.TheVariants.{Idle, Waiting, Withdrawing, Withdrawn, GivenUp}
use Rattle.scmi_words.specs.declared.view.CallerState.{CallerState}
use Rattle.scmi_words.specs.declared.view.CalleeState.{CalleeState}
use Rattle.scmi_words.specs.declared.view.CallerHalf.{CallerHalf}
use Rattle.scmi_words.specs.declared.view.CalleeHalf.{CalleeHalf}
use Rattle.scmi_words.specs.declared.view.View.{View}
use Rattle.scmi_words.specs.Area.{frame_words, settled_words, Begins, IsValid, IsValidAnswer}
use Rattle.scmi_words.specs.StatusWord.{Mark, status_word, answer_mark, settled_mark}

module _ (words : List ℕ) (caller : CallerState) (callee : CalleeState) where
  -- the status says this mark, with the closed mark if and only if an end has closed
  abbrev pub Status : Mark → Type 0
  Status m = slice_index words STATUS ≡ status_word m (caller.closed || callee.closed)

  -- free, with nothing outstanding and nothing withdrawn: the caller alone may store, and until it
  -- does the last answer stands
  pub record IsIdle : Type 0 where
    pub phase : caller.phase ≡ Idle
    pub taken : callee.taken ≡ caller.posted
    pub read : caller.read ≡ callee.answered
    pub answered : length callee.answered ≡ length callee.taken
    pub no_draft : callee.draft ≡ []
    pub status : Status (settled_mark (last_or None callee.answered))
    -- before the caller's first store since its last collect
    pub area : caller.draft ≡ []
        → Begins words (settled_words (last_or None callee.answered) (last_or None callee.taken))
    pub draft : Begins words caller.draft
    pub valid : (x : Answer) → last_or None callee.answered ≡ Some x → IsValidAnswer x
    pub valid_frame : (f : Frame) → last_or None callee.taken ≡ Some f → IsValid f

  -- posted: the last frame posted stands, and is not taken
  pub record IsPosted : Type 0 where
    pub frame : Frame
    pub phase : (caller.phase ≡ Waiting) ⊎ ((caller.phase ≡ Withdrawing) ⊎ (caller.phase ≡ GivenUp))
    -- a caller that does not wait for it any more knows of a close
    pub gone : caller.phase ≢ Waiting → (caller.closed || callee.closed) ≡ true
    pub unclosed : caller.phase ≡ Waiting → caller.closed ≡ false
    pub taken : caller.posted ≡ callee.taken ++ frame ∷ []
    pub read : caller.read ≡ callee.answered
    pub answered : length callee.answered ≡ length callee.taken
    pub no_draft : callee.draft ≡ []
    pub status : Status Mark.posted
    pub area : Begins words (frame_words frame)
    pub valid : IsValid frame

  -- taken: no end has closed, the callee alone may store, and until it does the last frame taken
  -- stands
  pub record IsTaken : Type 0 where
    pub frame : Frame
    pub phase : caller.phase ≡ Waiting
    pub unclosed : (caller.closed ≡ false) × (callee.closed ≡ false)
    pub taken : callee.taken ≡ caller.posted
    pub read : caller.read ≡ callee.answered
    pub answered : length callee.taken ≡ length callee.answered + 1
    pub status : Status Mark.taken
    pub last : last_or None callee.taken ≡ Some frame
    -- before the callee's first store since its last take
    pub area : callee.draft ≡ [] → Begins words (frame_words frame)
    pub draft : Begins words callee.draft
    pub valid : IsValid frame

  -- free, with a post outstanding: its answer stands
  pub record IsAnswered : Type 0 where
    pub answer : Answer
    pub phase : caller.phase ≡ Waiting
    pub unclosed : caller.closed ≡ false
    pub taken : callee.taken ≡ caller.posted
    pub read : callee.answered ≡ caller.read ++ answer ∷ []
    pub answered : length callee.answered ≡ length callee.taken
    pub no_draft : callee.draft ≡ []
    pub status : Status (answer_mark answer)
    pub area : Begins words (settled_words (Some answer) (last_or None callee.taken))
    pub valid : IsValidAnswer answer
    pub valid_frame : (f : Frame) → last_or None callee.taken ≡ Some f → IsValid f

  -- free after a withdrawal: the last frame posted stands, and is never taken
  pub record IsWithdrawn : Type 0 where
    pub frame : Frame
    pub phase : caller.phase ≡ Withdrawn
    pub closed : caller.closed ≡ true
    pub taken : caller.posted ≡ callee.taken ++ frame ∷ []
    pub read : caller.read ≡ callee.answered
    pub answered : length callee.answered ≡ length callee.taken
    pub no_draft : callee.draft ≡ []
    pub status : Status Mark.free
    pub area : Begins words (frame_words frame)
    pub valid : IsValid frame

  -- one of the five holds
  pub data Stage : Type 0 where
    idle : IsIdle → Stage
    posted : IsPosted → Stage
    taken : IsTaken → Stage
    answered : IsAnswered → Stage
    withdrawn : IsWithdrawn → Stage

-- the rule of the words and the two halves
pub record Rule (words : List ℕ) (caller : CallerHalf) (callee : CalleeHalf) : Type 0 where
  pub wide : length words ≡ TABLE_WORDS
  pub flags : slice_index words FLAGS ≡ 0
  -- all but the status are words of 32 bits
  pub narrow : (i : ℕ) → 0 < i → slice_index words i < 2 ^ 32
  -- status, stores, area and lists
  pub stage : Stage words caller.state callee.state
  -- an end that was notified of the other's close was notified of the truth
  pub caller_told : caller.told ≡ true → callee.state.closed ≡ true
  pub callee_told : callee.told ≡ true → caller.state.closed ≡ true
  -- since an end closed, nothing was posted and nothing was taken
  pub caller_final : caller.state.closed ≡ true → (length caller.state.posted ≡ caller.final_posted)
      × (length callee.state.taken ≡ caller.final_taken)
  pub callee_final : callee.state.closed ≡ true → (length caller.state.posted ≡ callee.final_posted)
      × (length callee.state.taken ≡ callee.final_taken)
  -- what refused closes showed stays true
  pub shown : (caller.shown_taken ≤ length callee.state.taken)
      × (caller.shown_answered ≤ length callee.state.answered)

-- each half is in one view, wherever that is, and the rule holds of them
pub record HalvesAgree (s : State (Unit {0}) View) : Type 0 where
  pub caller : CallerHalf
  pub callee : CalleeHalf
  pub caller_seat : ℕ
  pub callee_seat : ℕ
  pub caller_at : (i : ℕ) (v : View) (h : CallerHalf) → get_elem? s.views i ≡ some v
      → v.caller ≡ Some h → (h ≡ caller) × (i ≡ caller_seat)
  pub callee_at : (i : ℕ) (v : View) (h : CalleeHalf) → get_elem? s.views i ≡ some v
      → v.callee ≡ Some h → (h ≡ callee) × (i ≡ callee_seat)
  pub rule : Rule s.words caller callee
