use Rattle.scmi_threads.proofs.RoundLemmas.{and_flushed}
use Rattle.scmi_threads.proofs.platform_side.run_round.Goals as goal

pub flushed-preserved : goal.flushed-preserved
flushed-preserved g c = record {
  goes_on = and_flushed g.H.Hardware.REFUSES g.C.Channel.identity
      c.args.links.now c.args.controller.now c.flushed.controller c.flush.new.self
      _ _ g.C.Channel.FULL c.flushed.agent _ c.flushed.invariant.goes_on c.flush.ensures.links
      c.flush.ensures.board c.in_ok-flush.ensures.flushes;
}
