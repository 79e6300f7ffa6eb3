use Rattle.std.proofs.Common.{rules, tests, ◌^◌, ◌&&◌, nat_lt}
use Rattle.std.proofs.lemmas.Iterator.{YieldsList-from_slice}
use Rattle.std.proofs.lemmas.Iterator.Search.{all_from_yields_List}
use Rattle.scmi_plan.proofs.fault.are_valid_devices.Goals as goal

pub returns : goal.returns
returns c =
    all_from_yields_List (λ device. nat_lt device.domains (2 ^ c.args.domains)
    && nat_lt device.clocks (2 ^ c.args.clocks)) _ _ _ c.all.ensures.ran
    (YieldsList-from_slice c.args.devices.now cc) (λ x b q k. search (rules, tests))
