use Rattle.scmi_base.proofs.Masks.{zeros-with, zeros-without}
use Rattle.scmi_base.proofs.permission_table.with_device.Goals as goal

pub returns-then-allow : goal.returns-then-allow
returns-then-allow c = λ d small. rw c.if-allow.true (zeros-without c.args.denied
    c.without_bit.result c.args.device d (c.without_bit.ensures d small))

pub returns-else-allow : goal.returns-else-allow
returns-else-allow c = λ d small. rw c.if-allow.false
    (zeros-with c.args.denied c.with_bit.result c.args.device d (c.with_bit.ensures.bits d small))
