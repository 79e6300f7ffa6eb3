use Rattle.std.proofs.Common.{◌≡◌, ◌≢◌, ◌<◌, ◌+◌, ◌-◌, length, arith, ◌∙◌, ap, get_or-set_other, get_or-set_same, length-set, below_more}
use Rattle.scmi_core.specs.History.{outbox}
use Rattle.scmi_modes.proofs.standing.waiting_of.Goals as goal

pub agents-preserved : goal.agents-preserved
agents-preserved c =
    let small : c.agents.index < length c.agents.waiting =
    let r = c.agents.invariant.room in omega (arith, c.agents-index-end.ensures.few) in
    record {
      room = rw length-set c.agents.invariant.room;
      so_far = below_more _ _
          (λ i h. let other : i ≢ c.agents.index = omega arith in
          rw get_or-set_other (c.agents.invariant.so_far i h))
          (rw get_or-set_same c.waiting_for-count.ensures);
    }

pub returns : goal.returns
returns c = λ a is.
    let below : a - 1 < c.agents.index = omega (
      arith,
      is.0,
      is.1,
      c.agents-test.false,
      c.agents-index-end.ensures.count,
      c.agents.auto.index-end,
    ) in
    let same : a - 1 + 1 ≡ a = omega (arith, is.0) in
    c.agents.invariant.so_far (a - 1) below
    ∙ ap (λ n. length (outbox c.args.core.now.board n c.args.core.now.history)) same
