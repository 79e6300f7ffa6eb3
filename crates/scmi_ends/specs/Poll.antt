-- What an agent's looking leaves.
use Rattle.std.specs.Prelude.{◌≡◌, ℕ, ◌<◌, ◌≤◌, false, zero, suc, [], ◌∷◌, ◌++◌, Option, Some, None}
use Rattle.scmi_codec.specs.declared.frame.Frame.{Frame}
use Rattle.scmi_codec.specs.declared.frame.Answer.TheVariants.{Released}
use Rattle.scmi_link.specs.View.{CallerView, CalleeView, callee_knows_close, one_more}
use Rattle.scmi_link.specs.Calls.{TakesNone, Collects}
use Rattle.scmi_link.specs.declared.collected.Collected.{Collected}
use Rattle.scmi_link.specs.declared.collected.Collected.TheVariants as collected

-- one `take` on P2A; what it gives is released at once
abbrev pub Receives : CalleeView → Option Frame → CalleeView → Type 0
Receives old None new = TakesNone old new
Receives old (Some frame) new = (callee_knows_close old ≡ false) × (new ≡ record old {
  taken =
      old.taken ++ frame ∷ [];
  answered = old.answered ++ Released ∷ [];
  takes = one_more old.takes;
})

-- a count of calls, modulo 2^64, after n more of them
unfoldable pub more_calls : ℕ → ℕ → ℕ
more_calls zero calls = calls
more_calls (suc n) calls = one_more (more_calls n calls)

-- after n calls of `collect` that gave `Nothing`
abbrev pub after_polls : ℕ → CallerView → CallerView
after_polls n old = record old { collects = more_calls n old.collects }

-- at most this many calls of `collect`, all but the last of which gave `Nothing`; `Nothing` only
-- after all of them
abbrev pub Waits : ℕ → CallerView → Collected → CallerView → Type 0
Waits turns old collected.Nothing new = new ≡ after_polls turns old
Waits turns old (collected.Got answer) new = (n : ℕ) × (n < turns)
    × Collects (after_polls n old) (collected.Got answer) new
Waits turns old collected.Closed new = (n : ℕ) × (n < turns)
    × Collects (after_polls n old) collected.Closed new

-- how many polls a wait had with this result: all that it may have if there was nothing, else at
-- least one, at most this many
abbrev pub EndsAfter : ℕ → Collected → ℕ → Type 0
EndsAfter turns collected.Nothing looks = looks ≡ turns
EndsAfter turns (collected.Got answer) looks = (1 ≤ looks) × (looks ≤ turns)
EndsAfter turns collected.Closed looks = (1 ≤ looks) × (looks ≤ turns)

-- a wait had this many polls, and each was one `collect`
pub record Looks (turns : ℕ) (answer : Collected) (looks : ℕ) (old new : CallerView) : Type 0 where
  pub many : EndsAfter turns answer looks
  pub counted : new.collects ≡ more_calls looks old.collects
