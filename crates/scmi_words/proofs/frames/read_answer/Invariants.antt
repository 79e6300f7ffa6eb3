use Rattle.std.specs.List.{last_or}
use Rattle.std.proofs.Common.{None}
use Rattle.scmi_words.proofs.Picks.{reply_of}
use Rattle.scmi_words.specs.View.{caller_of}
use Rattle.scmi_words.proofs.frames.read_answer.Given as goal

abbrev pub ghost-read_reply : goal.ghost-read_reply
ghost-read_reply g a = reply_of (last_or None (caller_of a.seat.now).state.read)
