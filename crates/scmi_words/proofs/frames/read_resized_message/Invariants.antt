use Rattle.scmi_words.proofs.frames.read_resized_message.Given as goal

abbrev pub ghost-read_message : goal.ghost-read_message
ghost-read_message g a = g.posted
