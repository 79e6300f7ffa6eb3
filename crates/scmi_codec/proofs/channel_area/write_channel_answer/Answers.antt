use Rattle.std.proofs.Common.{sym}
use Rattle.scmi_codec.specs.ChannelArea.{capacity}
use Rattle.scmi_codec.proofs.AreaLemmas.{has_room}
use Rattle.scmi_codec.proofs.channel_area.write_channel_answer.Goals as goal

pub returns-clause-stands : goal.returns-clause-stands
returns-clause-stands c =
    let room = has_room _ c.args.area.now (sym c.in_ok-check_room.ensures) in
    let words = rw c.words_of.ensures at room in
    c.put_answer.ensures.stands (capacity c.args.area.now) (λ few. words)
