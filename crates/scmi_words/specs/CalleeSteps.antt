-- What each kind of step of a callee reports: its half after the step, by what the step found.
use Rattle.std.specs.Prelude.{◌≡◌, ◌≢◌, ℕ, ◌+◌, ◌^◌, ◌<◌, true, List, [], ◌∷◌, ◌++◌, length, slice_index, Some, None}
use Rattle.std.specs.List.{last_or}
use Rattle.atomic_table.specs.Table.{Me, Step}
use Rattle.scmi_codec.specs.declared.frame.Frame.{Frame}
use Rattle.scmi_codec.specs.declared.frame.Answer.{Answer}
use Rattle.scmi_words.specs.declared.layout.TheConstants.{LENGTH}
use Rattle.scmi_words.specs.declared.status_word.TheConstants.{POSTED}
use Rattle.scmi_words.specs.declared.view.CalleeHalf.{CalleeHalf}
use Rattle.scmi_words.specs.declared.view.View.{View}
use Rattle.scmi_words.specs.Area.{taken_words, answer_of, IsValid}
use Rattle.scmi_words.specs.StatusWord.{told_by}
use Rattle.scmi_words.specs.View.{with_callee}

-- a step: its word and its operands
abbrev AtomicStep : Type 0
AtomicStep = Step (Unit {0})

-- what a seat has: its view, and no slots
abbrev SeatState : Type 0
SeatState = Me (Unit {0}) View

-- where the callee's half was `half`, it becomes `half'`, of which `next` holds
abbrev ChangesHalf : SeatState → SeatState → (CalleeHalf → CalleeHalf → Type 0) → Type 0
ChangesHalf before after next = (half : CalleeHalf) → before.0.callee ≡ Some half
    → (half' : CalleeHalf) × (after ≡ (with_callee before.0 half', before.1)) × next half half'

-- the half after n more steps
abbrev pub callee_after : CalleeHalf → ℕ → CalleeHalf
callee_after half n = record half { steps = half.steps + n }

-- the half after one more word was stored
abbrev pub callee_stored : CalleeHalf → ℕ → CalleeHalf
callee_stored half n = record half
    { state = record half.state { draft = half.state.draft ++ n ∷ [] }; steps = half.steps + 1 }

-- the half after n stores, since the last take, of these words
abbrev pub callee_drafted : CalleeHalf → List ℕ → ℕ → CalleeHalf
callee_drafted half words n =
    record half { state = record half.state { draft = words }; steps = half.steps + n }

-- the half after a take that found another status than posted
abbrev pub callee_looked : CalleeHalf → ℕ → CalleeHalf
callee_looked half n = record half {
  told = told_by half.state.closed half.told n;
  steps = half.steps + 1;
  looks = half.looks + 1;
  saw = n;
}

-- the half after a take
abbrev pub callee_took : CalleeHalf → Frame → CalleeHalf
callee_took half f = record half {
  state = record half.state {
    taken = half.state.taken ++ f ∷ [];
    draft = [];
  };
  steps = half.steps + 1;
  looks = half.looks + 1;
  saw = POSTED;
}

-- the half after an answer
abbrev pub callee_answered : CalleeHalf → Answer → CalleeHalf
callee_answered half x = record half {
  state = record half.state
      { answered = half.state.answered ++ x ∷ []; draft = [] };
  steps = half.steps + 1;
}

-- the half after a close, p frames having been posted
abbrev pub callee_closed : CalleeHalf → ℕ → CalleeHalf
callee_closed half p = record half {
  state = record half.state { closed = true };
  final_posted = p;
  final_taken = length half.state.taken;
  steps = half.steps + 1;
}

-- an answer is owed
abbrev pub IsOwing : CalleeHalf → Type 0
IsOwing half = length half.state.taken ≡ length half.state.answered + 1

-- the words of the last frame taken, as the callee knows it
abbrev pub frame_area : CalleeHalf → List ℕ
frame_area half = taken_words (last_or None half.state.taken)

-- an exchange that takes the frame where it finds it posted
abbrev pub takes : AtomicStep → SeatState → ℕ → SeatState → Type 0
takes step before found after = ChangesHalf before after
    (λ half half'. (found ≡ POSTED → (f : Frame) × IsValid f × (half' ≡ callee_took half f))
    × (found ≢ POSTED → half' ≡ callee_looked half found))

-- a load of a word of the frame
abbrev pub reads : AtomicStep → SeatState → ℕ → SeatState → Type 0
reads step before found after =
    ChangesHalf before after (λ half half'. (half' ≡ callee_after half 1) × (found < 2 ^ 32)
    × ((i : ℕ) → step.word ≡ LENGTH + i → i < length (frame_area half)
    → found ≡ slice_index (frame_area half) i))

-- a store of a word of an answer
abbrev pub stores : AtomicStep → SeatState → ℕ → SeatState → Type 0
stores step before found after =
    ChangesHalf before after (λ half half'. half' ≡ callee_stored half found)

-- an exchange that answers
abbrev pub answers : AtomicStep → SeatState → ℕ → SeatState → Type 0
answers step before found after = ChangesHalf before after
    (λ half half'. half' ≡ callee_answered half (answer_of step.second half.state.draft))

-- a close by an or of the closed mark
abbrev pub closes : AtomicStep → SeatState → ℕ → SeatState → Type 0
closes step before found after =
    ChangesHalf before after (λ half half'. (p : ℕ) × (half' ≡ callee_closed half p))
