use Rattle.std.proofs.Common.{sym}
use Rattle.scmi_codec.specs.ChannelArea.{capacity}
use Rattle.scmi_codec.proofs.AreaLemmas.{has_room}
use Rattle.scmi_codec.proofs.channel_area.write_channel_response.Goals as goal

pub returns-clause-stands : goal.returns-clause-stands
returns-clause-stands c =
    let room = has_room _ c.args.area.now (sym c.in_ok-check_room.ensures) in
    let words = rw c.as_slice-words.ensures.value at room in
    rw c.as_slice-words.ensures.value at
    (c.put_response.ensures.stands (capacity c.args.area.now) room)
