-- How far the entries of a record are judged.
use Rattle.std.specs.Prelude.{◌≡◌, ◌+◌, ◌<◌, ◌++◌, not, Bool, List, length, Option, None}
use Rattle.std.specs.List.{All, list_any}
use Rattle.scmi_plan.specs.Board.{Board}
use Rattle.scmi_judge.specs.Guesses.{AreMany}
use Rattle.scmi_judge.specs.Judging.{Knows}
use Rattle.scmi_judge.specs.declared.unseen.Unseen.{Unseen}
use Rattle.scmi_check.specs.Judged.{AreJudged, DoesFit, behind, does_differ, line_at, shows_platform}
use Rattle.scmi_check.specs.Listener.{Grows}
use Rattle.scmi_check.specs.declared.check.TheConstants.{PLACES}
use Rattle.scmi_check.specs.declared.judged.Judged.{Judged}
use Rattle.scmi_check.specs.declared.record.Placed.{Placed}
use Rattle.scmi_check.specs.declared.progress.Progress.{Progress}

-- of these entries so many are judged, with these verdicts: all, or those before the first behind
-- which more platforms may be than there are places. As long as none differs the judge knows what
-- may be behind them
pub record AreBeingJudged (may : Unseen) (board : Board) (placed : List Placed)
    (judged : List Judged) (p : Progress) : Type 0 where
  pub board_is : p.judge.board ≡ board
  pub unseen_is : p.judge.unseen ≡ may
  pub places : p.unsure ≡ None → length p.judge.guesses + length p.judge.spare ≡ 1 + PLACES
  pub knows : p.unsure ≡ None → All DoesFit judged → Knows p.judge (behind judged)
  pub are : AreJudged may board placed judged
  pub many : length judged < length placed → All DoesFit judged
      → AreMany may board (behind judged) (2 + PLACES)
  pub unsure_is : p.unsure ≡ line_at placed (length judged)
  pub differs_is : p.differs ≡ list_any does_differ judged
  pub empty_is : p.is_empty ≡ not (list_any shows_platform placed)

-- how far they are judged at an entry, and whether none before it was of the platform
abbrev pub at_entry : Progress → Bool → Progress
at_entry p empty = record {
  judge = p.judge;
  lines = p.lines;
  is_empty = empty;
  differs = p.differs;
  unsure = p.unsure;
}

-- of these entries some more are judged, and the listener is given these
pub record FindsMore (may : Unseen) (board : Board) (placed : List Placed)
    (judged : List Judged) (new : Progress) (before after : Option (List Judged)) : Type 0 where
  pub more : List Judged
  pub are : AreBeingJudged may board placed (judged ++ more) new
  pub given : Grows before after more
