use Rattle.scmi_laws.proofs.Events.{advance, advance_failed, command_failed, promoted, reported, restarted, sent, settled, unanswered}
use Rattle.scmi_laws.proofs.others.every_event.Goals as goal

pub returns : goal.returns
returns c = record {
  advance = advance;
  advance_failed = advance_failed;
  sent = sent;
  command_failed = command_failed;
  restarted = restarted;
  promoted = promoted;
  settled = settled;
  reported = reported;
  unanswered = unanswered;
}
