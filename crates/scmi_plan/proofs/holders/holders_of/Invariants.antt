use Rattle.std.proofs.Common.{◌≡◌, ◌<◌, ◌==◌, ◌&&◌, nat_lt, ℕ}
use Rattle.std.specs.Int.{bit_at}
use Rattle.scmi_plan.specs.Board.{holds, device_in}
use Rattle.scmi_plan.specs.declared.limits.TheConstants.{DEVICES}
use Rattle.scmi_plan.proofs.holders.holders_of.Given as goal

abbrev pub invariant-loop-device : goal.invariant-loop-device
invariant-loop-device l = record {
  held : (d : ℕ) → d < DEVICES
      → (bit_at l.mask d == 1) ≡ (nat_lt d l.device && holds (device_in l.devices d) l.resource);
}
