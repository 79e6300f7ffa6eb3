use Rattle.scmi_threads.specs.Rounds.{GoesOn}
use Rattle.scmi_threads.proofs.platform_side.run_round.Given as goal

abbrev pub invariant-served : goal.invariant-served
invariant-served g l = record {
  goes_on : GoesOn g.H.Hardware.REFUSES g.C.Channel.identity l.links l.fn.controller
      (g.H.Hardware.asked l.fn.hardware) l.controller (g.H.Hardware.asked l.hardware);
}

abbrev pub invariant-flushed : goal.invariant-flushed
invariant-flushed g l = record {
  goes_on : GoesOn g.H.Hardware.REFUSES g.C.Channel.identity l.links l.fn.controller
      (g.H.Hardware.asked l.fn.hardware) l.controller (g.H.Hardware.asked l.hardware);
}
