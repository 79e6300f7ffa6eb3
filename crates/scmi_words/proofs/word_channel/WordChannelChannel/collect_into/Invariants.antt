use Rattle.std.specs.List.{last_or}
use Rattle.std.proofs.Common.{None}
use Rattle.scmi_words.proofs.Picks.{answer_or}
use Rattle.scmi_words.specs.View.{caller_of}
use Rattle.scmi_words.proofs.word_channel.WordChannelChannel.collect_into.Given as goal

abbrev pub ghost-read_answer : goal.ghost-read_answer
ghost-read_answer a = answer_or (last_or None (caller_of a.seat.now).state.read)
