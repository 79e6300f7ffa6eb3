use Rattle.std.proofs.Common.{◌+◌, ◌<◌, length, arith, subst, sym}
use Rattle.std.specs.Io.KnownBytes.{Appends}
use Rattle.scmi_text.specs.ScriptLine.{lines_text}
use Rattle.scmi_modes.proofs.RunLemmas.{logs_step}
use Rattle.scmi_modes.proofs.threads.write_logs.Goals as goal

pub logs-preserved : goal.logs-preserved
logs-preserved g c =
    let told = g.W.Write.contents in
    let logs = c.args.logs.now in
    let log = c.index-logs-i.result in
    let below : c.logs.i < length logs = omega (arith, c.logs-test.true, c.requires) in
    logs_step (told c.args.writer.now) (told c.logs.writer) (told c.write_script_lines.new.writer)
    logs c.logs.i log below c.index-logs-i.is c.logs.invariant
    (subst (λ l. Appends (told c.logs.writer) (told c.write_script_lines.new.writer)
    (lines_text (c.logs.i + 1) l.lines.items)) (sym c.index-logs-i.is)
    (subst (λ ls. Appends (told c.logs.writer) (told c.write_script_lines.new.writer)
    (lines_text (c.logs.i + 1) ls)) c.deref.ensures.value c.in-Ok.ensures))
