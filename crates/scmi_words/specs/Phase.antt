-- What a caller's phase says.
use Rattle.std.specs.Prelude.{ℕ, Bool, true, false}
use Rattle.scmi_words.specs.declared.phase.Phase.{Phase}
use Rattle.scmi_words.specs.declared.phase.Phase.TheVariants.{Idle, Withdrawing, Withdrawn, GivenUp}

-- whether the last post was withdrawn or given up
abbrev pub is_left : Phase → Bool
is_left Withdrawn = true
is_left GivenUp = true
is_left _ = false

-- whether a close is under way that found the callee closed
abbrev pub is_stranded : Phase → Bool
is_stranded Withdrawing = true
is_stranded _ = false

-- how many posts have no answer that was read
abbrev pub unread : Phase → ℕ
unread Idle = 0
unread _ = 1
