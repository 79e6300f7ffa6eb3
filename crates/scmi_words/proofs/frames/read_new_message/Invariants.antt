use Rattle.scmi_words.proofs.frames.read_new_message.Given as goal

abbrev pub ghost-read_resized_message : goal.ghost-read_resized_message
ghost-read_resized_message g a = g.posted
