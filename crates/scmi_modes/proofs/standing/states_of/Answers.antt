use Rattle.std.proofs.Common.{◌≡◌, ◌≢◌, ◌<◌, length, arith, ap, get_or-set_other, get_or-set_same, length-set, below_more}
use Rattle.scmi_modes.proofs.standing.states_of.Goals as goal

pub domains-preserved : goal.domains-preserved
domains-preserved c =
    let law = c.domains-domain-end.ensures.valid in
    let small : c.domains.domain < length c.domains.states =
    let r = c.domains.invariant.room in
    omega (arith, law.few_domains, c.domains-domain-end.ensures.count) in
    record {
      room = rw length-set c.domains.invariant.room;
      so_far = below_more _ _
          (λ d h. let other : d ≢ c.domains.domain = omega arith in
          rw get_or-set_other (c.domains.invariant.so_far d h))
          (rw get_or-set_same c.state_of-state.ensures);
    }

pub returns : goal.returns
returns c = λ d below.
    let same : length c.board.result.now.domains ≡ length c.args.core.now.board.domains =
    ap (λ b. length b.domains) c.board.ensures in
    c.domains.invariant.so_far d (omega (
      arith,
      same,
      below,
      c.domains-test.false,
      c.domains-domain-end.ensures.count,
      c.domains.auto.domain-end,
    ))
