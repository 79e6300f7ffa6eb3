use Rattle.scmi_words.specs.Area.{frame_in}
use Rattle.scmi_words.specs.View.{caller_of}
use Rattle.scmi_words.proofs.word_channel.WordChannelChannel.post_parts.Given as goal

abbrev pub ghost-hand_over : goal.ghost-hand_over
ghost-hand_over a = frame_in (caller_of a.seat.now).state.draft
