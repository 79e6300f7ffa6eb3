use Rattle.scmi_ends.proofs.PlainCalls.{flushed_plain, served_plain}
use Rattle.scmi_ends.proofs.plain_calls.every_plain_call.Goals as goal

pub returns : goal.returns
returns c = record {
  serves = served_plain;
  flushes = flushed_plain;
}
