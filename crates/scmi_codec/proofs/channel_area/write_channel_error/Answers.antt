use Rattle.scmi_codec.specs.ChannelArea.{capacity}
use Rattle.scmi_codec.proofs.channel_area.write_channel_error.Goals as goal

pub returns-clause-stands : goal.returns-clause-stands
returns-clause-stands c = c.put_error.ensures.stands (capacity c.args.area.now)
