use Rattle.std.proofs.Common.{Some, arith}
use Rattle.scmi_chart.specs.Signs.{sign_of}
use Rattle.scmi_chart.specs.Service.{executed_by}
use Rattle.scmi_chart.proofs.Turned.{turned_none, turned_more, turned_all}
use Rattle.scmi_chart.proofs.marks.execute_all.Goals as goal

pub marks-init : goal.marks-init
marks-init c = turned_none sign_of (executed_by (Some c.args.agent)) c.args.marks.now

pub marks-preserved : goal.marks-preserved
marks-preserved c =
    turned_more sign_of (executed_by (Some c.args.agent)) c.marks.i c.marks.marks c.args.marks.now
    c.index-marks-i.result c.execute.new.mark
    (omega (arith, c.marks-test.true, c.marks.auto.marks)) c.marks-test.true c.execute.ensures
    c.marks.invariant

pub returns : goal.returns
returns c =
    turned_all sign_of (executed_by (Some c.args.agent)) c.marks.i c.marks.marks c.args.marks.now
    (omega (arith, c.marks-test.false, c.marks.auto.marks)) c.marks-test.false c.marks.invariant
