-- What the ends of a channel remember of their halves.
use Rattle.std.specs.Prelude.{◌≡◌, ◌||◌, ℕ, ◌+◌, Bool, true, false, [], length, None}
use Rattle.std.specs.List.{last_or}
use Rattle.scmi_words.specs.declared.phase.Phase.{Phase}
use Rattle.scmi_words.specs.declared.phase.Phase.TheVariants.{Waiting}
use Rattle.scmi_words.specs.declared.view.CallerHalf.{CallerHalf}
use Rattle.scmi_words.specs.declared.view.CalleeHalf.{CalleeHalf}
use Rattle.scmi_words.specs.CalleeSteps.{IsOwing}
use Rattle.scmi_words.specs.Phase.{is_left, is_stranded, unread}
use Rattle.scmi_words.specs.StatusWord.{status_word, settled_mark}

-- what the caller's end remembers: its phase, the status of the last answer, whether it closed and
-- whether it was notified
pub record CallerRemembers (h : CallerHalf) (now : Phase) (status : ℕ)
    (own known : Bool) : Type 0 where
  pub phase : now ≡ h.state.phase
  pub closed : own ≡ h.state.closed
  pub told : known ≡ h.told
  pub free : status ≡ status_word (settled_mark (last_or None h.state.read)) false
  -- a draft is left by a refused post alone
  pub draft : h.told ≡ false → h.state.draft ≡ []
  -- no close is under way
  pub settled : is_stranded now ≡ false
  -- an end that waits for an answer knows of no close
  pub waits : now ≡ Waiting → (own || known) ≡ false
  pub counted : length h.state.posted ≡ length h.state.read + unread now
  -- a post is withdrawn or given up by a close, or where the callee's is known
  pub gone : is_left now ≡ true → (own || known) ≡ true

-- what the callee's end remembers: whether it owes, whether it closed and whether it was notified
pub record CalleeRemembers (h : CalleeHalf) (owing own known : Bool) : Type 0 where
  pub owes : owing ≡ true → IsOwing h × (h.state.draft ≡ [])
  pub done : owing ≡ false → (length h.state.taken ≡ length h.state.answered) × (h.state.draft ≡ [])
  pub closed : own ≡ h.state.closed
  pub told : known ≡ h.told
