use Rattle.std.proofs.Common.{◌≡◌, map, take}
use Rattle.scmi_plan.specs.RawPlan.{asked_clock}
use Rattle.scmi_plan.proofs.build.build_clocks.Given as goal

abbrev pub invariant-loop-clock : goal.invariant-loop-clock
invariant-loop-clock l = l.clocks.items ≡ map asked_clock (take l.clock-index l.raw)
