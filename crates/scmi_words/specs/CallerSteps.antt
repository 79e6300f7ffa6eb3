-- What each kind of step of a caller reports: its half after the step, by what the step found.
use Rattle.std.specs.Prelude.{◌≡◌, ◌≢◌, ℕ, ◌+◌, ◌%◌, ◌^◌, ◌==◌, cond, ◌<◌, ◌⊎◌, Bool, true, List, [], ◌∷◌, ◌++◌, length, slice_index, Some, None}
use Rattle.std.specs.List.{last_or}
use Rattle.atomic_table.specs.Table.{Me, Step}
use Rattle.scmi_codec.specs.declared.frame.Frame.{Frame}
use Rattle.scmi_codec.specs.declared.frame.Answer.{Answer}
use Rattle.scmi_words.specs.declared.layout.TheConstants.{LENGTH}
use Rattle.scmi_words.specs.declared.phase.Phase.TheVariants.{Idle, Waiting, Withdrawing, Withdrawn, GivenUp}
use Rattle.scmi_words.specs.declared.status_word.TheConstants.{POSTED, FREE, TAKEN, CLOSED}
use Rattle.scmi_words.specs.declared.view.CallerHalf.{CallerHalf}
use Rattle.scmi_words.specs.declared.view.View.{View}
use Rattle.scmi_words.specs.Area.{frame_in, settled_words, IsValidAnswer}
use Rattle.scmi_words.specs.StatusWord.{status_word, answer_mark, told_by}
use Rattle.scmi_words.specs.View.{with_caller}

-- a step: its word and its operands
abbrev AtomicStep : Type 0
AtomicStep = Step (Unit {0})

-- what a seat has: its view, and no slots
abbrev SeatState : Type 0
SeatState = Me (Unit {0}) View

-- where the caller's half was `half`, it becomes `half'`, of which `next` holds
abbrev ChangesHalf : SeatState → SeatState → (CallerHalf → CallerHalf → Type 0) → Type 0
ChangesHalf before after next = (half : CallerHalf) → before.0.caller ≡ Some half
    → (half' : CallerHalf) × (after ≡ (with_caller before.0 half', before.1)) × next half half'

-- the half after n more steps
abbrev pub caller_after : CallerHalf → ℕ → CallerHalf
caller_after half n = record half { steps = half.steps + n }

-- the half after one more word was stored
abbrev pub caller_stored : CallerHalf → ℕ → CallerHalf
caller_stored half n = record half
    { state = record half.state { draft = half.state.draft ++ n ∷ [] }; steps = half.steps + 1 }

-- the half after n stores, since the last collect, of these words
abbrev pub caller_drafted : CallerHalf → List ℕ → ℕ → CallerHalf
caller_drafted half words n =
    record half { state = record half.state { draft = words }; steps = half.steps + n }

-- the half after a post
abbrev pub caller_posted : CallerHalf → Frame → CallerHalf
caller_posted half f = record half {
  state = record half.state
      { posted = half.state.posted ++ f ∷ []; phase = Waiting; draft = [] };
  steps = half.steps + 1;
}

-- the half after a post that was refused: it is notified that the callee has closed
abbrev pub caller_refused : CallerHalf → CallerHalf
caller_refused half = record half { told = true; steps = half.steps + 1 }

-- the half after a look with nothing outstanding
abbrev pub caller_looked : CallerHalf → ℕ → CallerHalf
caller_looked half n = record half {
  told = told_by half.state.closed half.told n;
  steps = half.steps + 1;
  looks = half.looks + 1;
  saw = n;
}

-- the half after a look that found no answer, nor that none will come
abbrev pub caller_saw : CallerHalf → ℕ → CallerHalf
caller_saw half n = record half { steps = half.steps + 1; looks = half.looks + 1; saw = n }

-- the half after a look that found an answer
abbrev pub caller_collected : CallerHalf → ℕ → Answer → CallerHalf
caller_collected half n x = record (caller_saw half n)
    { state = record half.state { read = half.state.read ++ x ∷ []; phase = Idle; draft = [] } }

-- the half after a look that found the post untaken and the callee closed
abbrev pub caller_gave_up : CallerHalf → ℕ → CallerHalf
caller_gave_up half n =
    record (caller_looked half n) { state = record half.state { phase = GivenUp } }

-- the half after a close with nothing outstanding, t frames having been taken
abbrev pub caller_closed : CallerHalf → ℕ → CallerHalf
caller_closed half t = record half {
  state = record half.state { closed = true };
  final_posted = length half.state.posted;
  final_taken = t;
  steps = half.steps + 1;
}

-- the half after a close that withdraws the last post, t frames having been taken
abbrev pub caller_withdrew : CallerHalf → ℕ → CallerHalf
caller_withdrew half t = record half {
  state = record half.state {
    phase = Withdrawn;
    closed =
        true;
  };
  final_posted = length half.state.posted;
  final_taken = t;
  steps = half.steps + 1;
}

-- the half after a close by an or of these bits: with the free bit it withdraws
abbrev pub closed_by : CallerHalf → ℕ → ℕ → CallerHalf
closed_by half bits t = cond (bits == CLOSED) (caller_closed half t) (caller_withdrew half t)

-- the half after a close that was refused as the last post was taken
abbrev pub caller_saw_taken : CallerHalf → CallerHalf
caller_saw_taken half =
    record half { shown_taken = length half.state.posted; steps = half.steps + 1 }

-- the half after a close that was refused as the last post was answered
abbrev pub caller_saw_answered : CallerHalf → CallerHalf
caller_saw_answered half = record half {
  shown_taken = length half.state.posted;
  shown_answered = length half.state.posted;
  steps = half.steps + 1;
}

-- the half after an exchange that found the post untaken and the callee closed
abbrev pub caller_stranded : CallerHalf → CallerHalf
caller_stranded half =
    record half { state = record half.state { phase = Withdrawing }; steps = half.steps + 1 }

-- the words of the last answer, as the caller knows it
abbrev pub answer_area : CallerHalf → List ℕ
answer_area half = settled_words (last_or None half.state.read) (last_or None half.state.posted)

-- the status is that of the answer
abbrev pub Shows : ℕ → Answer → Type 0
Shows n x = (closed : Bool) × (n ≡ status_word (answer_mark x) closed)

-- a look with a post outstanding finds its answer, or that there will be none, or neither
abbrev pub Sees : CallerHalf → ℕ → CallerHalf → Type 0
Sees half n half' =
    (n % 2 ≡ FREE → (x : Answer) × (half' ≡ caller_collected half n x) × Shows n x
    × IsValidAnswer x)
    × (n ≡ CLOSED → half' ≡ caller_gave_up half n)
    × (n % 2 ≢ FREE → n ≢ CLOSED → (half' ≡ caller_saw half n) × (n < CLOSED))

-- a withdrawal fails where the frame was taken, or answered, or the callee has closed
abbrev pub Refuses : CallerHalf → ℕ → CallerHalf → Type 0
Refuses half n half' =
    ((n ≡ TAKEN) × (half' ≡ caller_saw_taken half)
    × (half.shown_answered < length half.state.posted))
    ⊎ (((n % 2 ≡ FREE) × (half' ≡ caller_saw_answered half))
    ⊎ ((n ≡ CLOSED) × (half' ≡ caller_stranded half)))

-- a store of a word of a frame
abbrev pub stores : AtomicStep → SeatState → ℕ → SeatState → Type 0
stores step before found after =
    ChangesHalf before after (λ half half'. half' ≡ caller_stored half found)

-- an exchange that posts the stored frame where it finds the status that it wants
abbrev pub posts : AtomicStep → SeatState → ℕ → SeatState → Type 0
posts step before found after = ChangesHalf before after
    (λ half half'. (found ≡ step.first → half' ≡ caller_posted half (frame_in half.state.draft))
    × (found ≢ step.first → half' ≡ caller_refused half))

-- a load of the status
abbrev pub looks : AtomicStep → SeatState → ℕ → SeatState → Type 0
looks step before found after = ChangesHalf before after (λ half half'. (half.state.phase ≡ Waiting
    → Sees half found half') × (half.state.phase ≢ Waiting → half' ≡ caller_looked half found))

-- a load of a word of the answer
abbrev pub reads : AtomicStep → SeatState → ℕ → SeatState → Type 0
reads step before found after =
    ChangesHalf before after (λ half half'. (half' ≡ caller_after half 1) × (found < 2 ^ 32)
    × ((i : ℕ) → step.word ≡ LENGTH + i → i < length (answer_area half)
    → found ≡ slice_index (answer_area half) i))

-- a close by an or of bits
abbrev pub closes : AtomicStep → SeatState → ℕ → SeatState → Type 0
closes step before found after =
    ChangesHalf before after (λ half half'. (t : ℕ) × (half' ≡ closed_by half step.first t))

-- an exchange that withdraws the post where it finds it posted
abbrev pub withdraws : AtomicStep → SeatState → ℕ → SeatState → Type 0
withdraws step before found after = ChangesHalf before after (λ half half'. (found ≡ POSTED
    → (t : ℕ) × (half' ≡ caller_withdrew half t)) × (found ≢ POSTED → Refuses half found half'))
