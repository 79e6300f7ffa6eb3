use Rattle.scmi_words.proofs.Picks.{message_in}
use Rattle.scmi_words.proofs.frames.read_frame.Given as goal

abbrev pub ghost-read_message : goal.ghost-read_message
ghost-read_message g a = message_in g.posted

abbrev pub ghost-read_other_message : goal.ghost-read_other_message
ghost-read_other_message g a = message_in g.posted
