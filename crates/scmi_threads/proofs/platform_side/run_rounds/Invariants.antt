use Rattle.std.proofs.Common.{◌≡◌, true}
use Rattle.scmi_threads.specs.Rounds.{GoesOn}
use Rattle.scmi_threads.proofs.platform_side.run_rounds.Given as goal

abbrev pub invariant-rounds : goal.invariant-rounds
invariant-rounds g l = record {
  goes_on : GoesOn g.H.Hardware.REFUSES g.C.Channel.identity l.links l.fn.controller
      (g.H.Hardware.asked l.fn.hardware) l.controller (g.H.Hardware.asked l.hardware);
  memory : l.memory ≡ true → l.controller.room ≡ 0;
}
