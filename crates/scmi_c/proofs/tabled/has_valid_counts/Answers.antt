use Rattle.std.proofs.lemmas.List.{length-map}
use Rattle.scmi_c.specs.Tables.{board_in, clock_in, device_in, domain_in, name_in, tables_of}
use Rattle.scmi_c.proofs.tabled.has_valid_counts.Goals as goal

pub returns : goal.returns
returns c =
    let t = tables_of c.args.tables.now in
    c.are_valid_counts.ensures (board_in t) (length-map t.agents (λ row. name_in row.name))
    (length-map t.domains domain_in) (length-map t.clocks (clock_in t.rates))
    (length-map t.devices device_in)
