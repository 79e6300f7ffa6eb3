use Rattle.std.proofs.Common.{◌∙◌, ap, option_map}
use Rattle.scmi_decode.proofs.names.protocol_name.Goals as goal

pub returns : goal.returns
returns c = c.name_of.ensures ∙ ap (option_map (λ row. row.name)) c.protocol_row.ensures
