use Rattle.scmi_words.proofs.frames.read_reply.Given as goal

abbrev pub ghost-read_response : goal.ghost-read_response
ghost-read_response g a = g.given

abbrev pub ghost-read_other_response : goal.ghost-read_other_response
ghost-read_other_response g a = g.given
