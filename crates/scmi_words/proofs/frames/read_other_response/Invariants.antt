use Rattle.scmi_words.proofs.frames.read_other_response.Given as goal

abbrev pub ghost-read_resized_response : goal.ghost-read_resized_response
ghost-read_resized_response g a = g.given

abbrev pub ghost-read_new_response : goal.ghost-read_new_response
ghost-read_new_response g a = g.given
