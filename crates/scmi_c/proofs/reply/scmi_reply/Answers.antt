use Rattle.std.proofs.Common.{rules, length, inr}
use Rattle.scmi_c.proofs.Areas.{reply-fits, room-has, room-lacks, size-of-busy}
use Rattle.scmi_c.proofs.reply.scmi_reply.Goals as goal

pub returns-in-Ok-clause-wrong_size : goal.returns-in-Ok-clause-wrong_size
returns-in-Ok-clause-wrong_size c =
    let size = size-of-busy c.args.area.now c.is_channel_free.result
    c.is_channel_free.ensures.wrong_size (search rules) in
    let few = room-has (length c.args.words.now) c.args.area.now (search rules) in (
      search rules,
      λ lacks. absurd (reply-fits c.args.area.now (length c.args.words.now) size few lacks),
    )

pub returns-in-Err-write_channel_response-clause-wrong_size :
    goal.returns-in-Err-write_channel_response-clause-wrong_size
returns-in-Err-write_channel_response-clause-wrong_size c =
    let size = size-of-busy c.args.area.now c.is_channel_free.result
    c.is_channel_free.ensures.wrong_size (search rules) in
    let more = room-lacks (length c.args.words.now) c.args.area.now
    c.in-Err-write_channel_response.field-0 size (search rules) in
    (λ same. inr (search rules, more), search rules)
