use Rattle.scmi_words.proofs.frames.read_new_response.Given as goal

abbrev pub ghost-read_resized_response : goal.ghost-read_resized_response
ghost-read_resized_response g a = g.given
