use Rattle.scmi_io.proofs.NextLine.{found_none, found_some, found_inside}
use Rattle.scmi_io.proofs.ahead.line_end.Goals as goal

pub returns-clause-none : goal.returns-clause-none
returns-clause-none c = found_none c.args.bytes.now c.memchr.result c.memchr.ensures

pub returns-clause-some : goal.returns-clause-some
returns-clause-some c = found_some c.args.bytes.now c.memchr.result c.memchr.ensures

pub returns-clause-inside : goal.returns-clause-inside
returns-clause-inside c = found_inside c.args.bytes.now c.memchr.result c.memchr.ensures
