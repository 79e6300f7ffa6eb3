use Rattle.scmi_base.proofs.Masks.{bit_of-not}
use Rattle.scmi_base.proofs.permission_table.others.Goals as goal

pub returns : goal.returns
returns c = λ d small. bit_of-not c.args.mask d c.ranges.mask.fits small
