use Rattle.scmi_words.specs.Area.{answer_of}
use Rattle.scmi_words.specs.View.{callee_of}
use Rattle.scmi_words.proofs.word_channel.WordChannelChannel.reply.Given as goal

abbrev pub ghost-hand_back : goal.ghost-hand_back
ghost-hand_back a = answer_of a.status (callee_of a.seat.now).state.draft
