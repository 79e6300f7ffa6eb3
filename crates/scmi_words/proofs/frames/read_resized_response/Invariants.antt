use Rattle.scmi_words.proofs.frames.read_resized_response.Given as goal

abbrev pub ghost-read_response : goal.ghost-read_response
ghost-read_response g a = g.given
