use Rattle.std.proofs.Common.{◌∙◌, ap}
use Rattle.scmi_codec.specs.Listing.{row_in}
use Rattle.scmi_codec.proofs.Listed.{few_held}
use Rattle.scmi_codec.proofs.listing.listed_row.Goals as goal

pub returns-clause-few : goal.returns-clause-few
returns-clause-few c = few_held c.args.protocol c.args.id c.row_in.result
    (c.row_in.ensures ∙ ap (row_in c.args.id) c.rows_of.ensures)
