use Rattle.std.proofs.Common.{take}
use Rattle.std.specs.Io.KnownBytes.{Appends}
use Rattle.scmi_modes.specs.Runs.{logs_text}
use Rattle.scmi_modes.proofs.threads.write_logs.Given as goal

abbrev pub invariant-logs : goal.invariant-logs
invariant-logs g l = Appends (g.W.Write.contents l.fn.writer) (g.W.Write.contents l.writer)
    (logs_text 1 (take l.i l.logs))
