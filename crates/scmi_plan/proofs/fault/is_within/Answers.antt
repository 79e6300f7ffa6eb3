use Rattle.std.proofs.Common.{◌≤◌, ◌<◌, ◌^◌, ◌/◌, ◌==◌, nat_lt, arith}
use Rattle.std.proofs.lemmas.Bool.Decides.{nat_tests, same_from_decides, Decides-ltb}
use Rattle.std.proofs.lemmas.Nat.{pow_pos}
use Rattle.std.proofs.Math.Pow.{pow_mono}
use Rattle.scmi_plan.proofs.FaultLemmas.{Decides-below}
use Rattle.scmi_plan.proofs.fault.is_within.Goals as goal

pub returns-then-count-ge32 : goal.returns-then-count-ge32
returns-then-count-ge32 c =
    let wide : 2 ^ 32 ≤ 2 ^ c.args.count = pow_mono c.if-count-ge32.true in
    let fits : c.args.set < 2 ^ 32 = c.ranges.set.fits in
    let small : c.args.set < 2 ^ c.args.count = omega arith in
    grind (arith, nat_tests)

pub returns-else-count-ge32 : goal.returns-else-count-ge32
returns-else-count-ge32 c =
    let p = 2 ^ c.args.count in
    same_from_decides (c.args.set / p == 0) (nat_lt c.args.set p)
    (Decides-below c.args.set p (pow_pos c.args.count)) (Decides-ltb c.args.set p)
