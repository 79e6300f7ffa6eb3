use Rattle.std.proofs.Common.{◌≡◌, subst, None, inr}
use Rattle.std.specs.List.{All}
use Rattle.std.specs.Io.KnownBytes.{Appends}
use Rattle.scmi_modes.specs.Runs.{IsTextOfEndedRun, IsTextOfOutcome, logs_text}
use Rattle.scmi_modes.proofs.RunLemmas.{on_ok}
use Rattle.scmi_modes.proofs.threads.write_run.Goals as goal

pub returns-clause-text : goal.returns-clause-text
returns-clause-text g c =
    let old = g.W.Write.contents c.args.writer.now in
    let new = g.W.Write.contents c.write_logs.new.writer in
    let told : IsTextOfOutcome g.C.Channel.FULL c.args.plan c.args.scripts.now
    c.in_ok-outcome.outcome old new = record {
      of_agents = c.requires.scripts;
      legal = c.in_ok-outcome.ensures.legal;
      plain = c.in_ok-outcome.ensures.plain;
      count = c.in_ok-outcome.ensures.count;
      follow = c.in_ok-outcome.ensures.scripts;
      headline = c.in_ok-outcome.ensures.headline;
      text = subst (λ logs. Appends old new (logs_text 1 logs)) c.deref.ensures.value
          c.in_ok-write_logs.ensures.text;
    } in
    on_ok (All (λ log. log.stopped ≡ None) c.in_ok-outcome.outcome.logs.items)
    (IsTextOfEndedRun g.C.Channel.FULL c.args.plan c.args.scripts.now old new) c.verdict.result
    c.verdict.ensures.ok
    (λ ended. record { outcome = c.in_ok-outcome.outcome; not_stopped = ended; told = told })

pub returns-clause-limit : goal.returns-clause-limit
returns-clause-limit g c =
    let old = g.W.Write.contents c.args.writer.now in
    let new = g.W.Write.contents c.write_logs.new.writer in
    let told : IsTextOfOutcome g.C.Channel.FULL c.args.plan c.args.scripts.now
    c.in_ok-outcome.outcome old new = record {
      of_agents = c.requires.scripts;
      legal = c.in_ok-outcome.ensures.legal;
      plain = c.in_ok-outcome.ensures.plain;
      count = c.in_ok-outcome.ensures.count;
      follow = c.in_ok-outcome.ensures.scripts;
      headline = c.in_ok-outcome.ensures.headline;
      text = subst (λ logs. Appends old new (logs_text 1 logs)) c.deref.ensures.value
          c.in_ok-write_logs.ensures.text;
    } in
    λ limit. record { outcome = c.in_ok-outcome.outcome; told = told }

pub returns-clause-memory : goal.returns-clause-memory
returns-clause-memory g c =
    let old = g.W.Write.contents c.args.writer.now in
    let new = g.W.Write.contents c.write_logs.new.writer in
    let told : IsTextOfOutcome g.C.Channel.FULL c.args.plan c.args.scripts.now
    c.in_ok-outcome.outcome old new = record {
      of_agents = c.requires.scripts;
      legal = c.in_ok-outcome.ensures.legal;
      plain = c.in_ok-outcome.ensures.plain;
      count = c.in_ok-outcome.ensures.count;
      follow = c.in_ok-outcome.ensures.scripts;
      headline = c.in_ok-outcome.ensures.headline;
      text = subst (λ logs. Appends old new (logs_text 1 logs)) c.deref.ensures.value
          c.in_ok-write_logs.ensures.text;
    } in
    λ memory. inr (record { outcome = c.in_ok-outcome.outcome; told = told })
