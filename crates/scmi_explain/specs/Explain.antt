-- What an explanation is of.
use Rattle.std.specs.Prelude.{ℕ, Option, Some, None}
use Rattle.scmi_explain.specs.declared.fault.Fault.{Fault}
use Rattle.scmi_explain.specs.declared.fault.Fault.TheVariants.{Board, Script}

-- the line that a fault names
abbrev pub line_of : Fault → Option ℕ
line_of (Board line) = Some line
line_of (Script line) = Some line
line_of other = None
