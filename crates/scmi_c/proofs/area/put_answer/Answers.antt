use Rattle.std.proofs.Common.{length, ◌∙◌}
use Rattle.scmi_c.proofs.Areas.{room-is, was-written}
use Rattle.scmi_c.proofs.area.put_answer.Goals as goal

pub returns-in-Reply-clause-reply : goal.returns-in-Reply-clause-reply
returns-in-Reply-clause-reply c = λ is few.
    was-written _ _ (c.write_channel_response.ensures.size
    ∙ room-is (length c.args.payload.now.items) c.args.area.now c.requires.size few)
    c.write_channel_response.ensures.written
