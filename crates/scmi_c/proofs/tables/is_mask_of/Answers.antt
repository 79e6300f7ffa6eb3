use Rattle.std.proofs.Common.{◌≤◌, ◌<◌, ◌^◌, ◌/◌, ◌==◌, nat_lt, arith}
use Rattle.std.proofs.lemmas.Bool.Decides.{nat_tests, same_from_decides, Decides-ltb}
use Rattle.std.proofs.lemmas.Nat.{pow_pos}
use Rattle.std.proofs.Math.Pow.{pow_mono}
use Rattle.scmi_plan.proofs.FaultLemmas.{Decides-below}
use Rattle.scmi_c.proofs.tables.is_mask_of.Goals as goal

pub returns-then-devices : goal.returns-then-devices
returns-then-devices c =
    let wide : 2 ^ 32 ≤ 2 ^ c.args.devices = pow_mono c.if-devices.true in
    let fits : c.args.mask < 2 ^ 32 = c.ranges.mask.fits in
    let small : c.args.mask < 2 ^ c.args.devices = omega arith in
    grind (arith, nat_tests)

pub returns-else-devices : goal.returns-else-devices
returns-else-devices c =
    let p = 2 ^ c.args.devices in
    same_from_decides (c.args.mask / p == 0) (nat_lt c.args.mask p)
    (Decides-below c.args.mask p (pow_pos c.args.devices)) (Decides-ltb c.args.mask p)
