-- The status word: what it says, and its value.
use Rattle.std.specs.Prelude.{ℕ, ◌+◌, ◌||◌, ◌&&◌, not, nat_le, if◌then◌else◌, Bool, Option, Some, None}
use Rattle.scmi_codec.specs.declared.frame.Answer.{Answer}
use Rattle.scmi_codec.specs.declared.frame.Answer.TheVariants.{Reply, Released, ChannelError}
use Rattle.scmi_words.specs.declared.status_word.TheConstants.{POSTED, FREE, CHANNEL_ERROR, TAKEN, RELEASED, CLOSED}

-- what the status word says, but for whether an end has closed
pub data Mark : Type 0 where
  posted : Mark
  taken : Mark
  free : Mark
  error : Mark
  released : Mark

-- the value of a mark
abbrev pub mark_word : Mark → ℕ
mark_word posted = POSTED
mark_word taken = TAKEN
mark_word free = FREE
mark_word error = CHANNEL_ERROR
mark_word released = RELEASED

-- the status word: a mark, and the closed mark once an end has closed
abbrev pub status_word : Mark → Bool → ℕ
status_word m closed = if closed then mark_word m + CLOSED else mark_word m

-- the mark that an answer leaves
abbrev pub answer_mark : Answer → Mark
answer_mark (Reply m) = free
answer_mark Released = released
answer_mark ChannelError = error

-- the mark after the last answer: free where there was none
abbrev pub settled_mark : Option Answer → Mark
settled_mark (Some x) = answer_mark x
settled_mark None = free

-- whether an end knows of the other's close after a look: it knew, or it has not closed itself and
-- found the closed mark
abbrev pub told_by : Bool → Bool → ℕ → Bool
told_by closed told status = told || (not closed && nat_le CLOSED status)
