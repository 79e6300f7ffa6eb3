use Rattle.std.proofs.Common.{◌≡◌, length}
use Rattle.scmi_plan.specs.RawPlan.{asked_board}
use Rattle.scmi_live.specs.Payload.{words_behind}
use Rattle.scmi_live.proofs.payload.words_of_parts.Given as goal

abbrev pub invariant-loop-parts : goal.invariant-loop-parts
invariant-loop-parts l =
    words_behind (asked_board l.board) l.protocol l.payload.items l.parts l.left ≡ words_behind
    (asked_board l.board) l.protocol l.initial.payload.items l.initial.parts l.initial.left

abbrev pub decreases-loop-parts : goal.decreases-loop-parts
decreases-loop-parts l = length l.parts
