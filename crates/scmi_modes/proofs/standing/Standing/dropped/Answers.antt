use Rattle.std.proofs.Common.{◌≡◌, ap, ◌∙◌, length, arith}
use Rattle.scmi_modes.specs.Standing.{dropped_of, is_dropped_since}
use Rattle.scmi_modes.proofs.DroppedSince.{agent_more, all_since}
use Rattle.scmi_modes.proofs.standing.Standing.dropped.Goals as goal

pub agents-preserved : goal.agents-preserved
agents-preserved c =
    agent_more (is_dropped_since c.args.core.now.board c.args.self.now c.args.core.now.history)
    (length c.args.core.now.board.domains) c.agents.index _ _ c.agents.invariant
    c.in_ok-add_dropped.ensures

pub returns : goal.returns
returns c = λ before kept.
    let all : c.agents.index ≡ length c.args.core.now.board.agents = omega
    (arith, c.agents-test.false, c.agents-index-end.ensures.count, c.agents.auto.index-end) in
    c.agents.invariant ∙ ap (dropped_of (is_dropped_since c.args.core.now.board c.args.self.now
    c.args.core.now.history) (length c.args.core.now.board.domains)) all
    ∙ all_since c.args.core.now.board before c.args.core.now.history c.args.self.now kept
