use Rattle.std.proofs.Common.{Some}
use Rattle.scmi_chart.specs.Signs.{sign_of}
use Rattle.scmi_chart.specs.Service.{executed_by}
use Rattle.scmi_chart.proofs.Turned.{Turned}
use Rattle.scmi_chart.proofs.marks.execute_all.Given as goal

abbrev pub invariant-marks : goal.invariant-marks
invariant-marks l = Turned sign_of (executed_by (Some l.agent)) l.i l.marks l.fn.marks
