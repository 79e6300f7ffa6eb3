-- The entries of a record with the verdicts on them.
use Rattle.std.specs.Prelude.{◌≡◌, ◌↔◌, ℕ, ◌≤◌, Bool, List, length, map, reverse, take, Option, slice_get}
use Rattle.std.specs.List.{All}
use Rattle.std.specs.Option.{option_map}
use Rattle.scmi_plan.specs.Board.{Board}
use Rattle.scmi_judge.specs.Behind.{IsRight}
use Rattle.scmi_judge.specs.Shown.{is_from_platform}
use Rattle.scmi_judge.specs.declared.entry.Entry.{Entry}
use Rattle.scmi_judge.specs.declared.unseen.Unseen.{Unseen}
use Rattle.scmi_check.specs.Finding.{Fits, finding_of, is_difference, judged_as}
use Rattle.scmi_check.specs.declared.judged.Judged.{Judged}
use Rattle.scmi_check.specs.declared.record.Placed.{Placed}

-- an entry without the verdict on it
abbrev pub placed_of : Judged → Placed
placed_of one = record { line = one.line; entry = one.entry }

-- an entry does not differ, but by a rule of the profile's own
abbrev pub DoesFit : Judged → Type 0
DoesFit one = Fits (finding_of one.entry one.verdict)

-- an entry differs, but not by a rule of the profile's own
abbrev pub does_differ : Judged → Bool
does_differ one = is_difference (finding_of one.entry one.verdict)

-- what an entry is judged as
abbrev pub meant : Judged → Entry
meant one = judged_as one.entry one.verdict

-- what entries are judged as, newest first
abbrev pub behind : List Judged → List Entry
behind judged = reverse (map meant judged)

-- these are the first entries of a record with the verdicts on them: however many of them are
-- taken, none of these differs, but by rules of the profile's own, if and only if a legal history
-- of the board is behind them, with the reply that was due in place of each that differs by such a
-- rule
pub record AreJudged (may : Unseen) (board : Board) (placed : List Placed)
    (judged : List Judged) : Type 0 where
  pub few : length judged ≤ length placed
  pub first : map placed_of judged ≡ take (length judged) placed
  pub right : (count : ℕ) → count ≤ length judged
      → All DoesFit (take count judged) ↔ IsRight may board (map meant (take count judged))

-- the platform gave what an entry of a record shows
abbrev pub shows_platform : Placed → Bool
shows_platform one = is_from_platform one.entry

-- the line of an entry of a record, by its place
abbrev pub line_at : List Placed → ℕ → Option ℕ
line_at placed place = option_map (λ (one : Placed). one.line) (slice_get placed place)
