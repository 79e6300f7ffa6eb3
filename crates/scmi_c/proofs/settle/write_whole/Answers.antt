use Rattle.std.proofs.Common.{length, ◌∙◌}
use Rattle.scmi_c.proofs.Areas.{room-is, was-written}
use Rattle.scmi_c.proofs.settle.write_whole.Goals as goal

pub returns-in-Reply-clause-reply : goal.returns-in-Reply-clause-reply
returns-in-Reply-clause-reply c = λ is few.
    was-written _ _ (c.write_channel_reply.ensures.size
    ∙ room-is (length c.args.reply.now.payload.items) c.args.area.now c.requires.size few)
    c.write_channel_reply.ensures.written
