use Rattle.std.proofs.Common.{None}
use Rattle.std.specs.List.{last_or}
use Rattle.scmi_words.proofs.Picks.{frame_or}
use Rattle.scmi_words.specs.View.{callee_of}
use Rattle.scmi_words.proofs.word_channel.WordChannelChannel.take_into.Given as goal

abbrev pub ghost-read_frame : goal.ghost-read_frame
ghost-read_frame a = frame_or (last_or None (callee_of a.seat.now).state.taken)
