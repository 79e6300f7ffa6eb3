use Rattle.scmi_decode.proofs.Rows.{few}
use Rattle.scmi_decode.proofs.field_parts.row_of.Goals as goal

pub returns-clause-few : goal.returns-clause-few
returns-clause-few c =
    few c.args.protocol c.from.result c.listed_row.result c.listed_row.ensures.row
