use Rattle.std.proofs.Common.{rules, nat_lt, ◌∙◌}
use Rattle.std.proofs.lemmas.List.Sorted.{IsPartitionPoint-from_clause, IsPartitionedBy-ltb}
use Rattle.scmi_clock.proofs.ListRates.{rising, above_item}
use Rattle.scmi_clock.proofs.rounding.list_above.Goals as goal

pub returns : goal.returns
returns c =
    let parted = IsPartitionedBy-ltb (λ x. x) _ c.args.asked (rising c.args.list.now c.requires) in
    let point = IsPartitionPoint-from_clause (λ y. nat_lt y c.args.asked) _ _
    c.partition_point-count.ensures.partitioned parted (λ a r f k. search rules) in
    c.copied.ensures ∙ above_item c.args.list.now c.args.asked c.partition_point-count.result point
    c.get.result c.get.ensures.lookup
