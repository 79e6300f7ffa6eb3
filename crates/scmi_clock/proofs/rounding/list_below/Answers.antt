use Rattle.std.proofs.Common.{rules, arith, nat_le}
use Rattle.std.proofs.lemmas.List.Sorted.{IsPartitionPoint-from_clause, IsPartitionedBy-leb}
use Rattle.scmi_clock.proofs.ListRates.{rising, below_start, below_inside}
use Rattle.scmi_clock.proofs.rounding.list_below.Goals as goal

pub returns-in-0 : goal.returns-in-0
returns-in-0 c =
    let parted = IsPartitionedBy-leb (λ x. x) _ c.args.asked (rising c.args.list.now c.requires) in
    let point = IsPartitionPoint-from_clause (λ y. nat_le y c.args.asked) _ _
    c.partition_point.ensures.partitioned parted (λ a r f k. search rules) in
    below_start c.args.list.now c.args.asked c.partition_point.result point (omega arith)

pub returns-in_default : goal.returns-in_default
returns-in_default c =
    let parted = IsPartitionedBy-leb (λ x. x) _ c.args.asked (rising c.args.list.now c.requires) in
    let point = IsPartitionPoint-from_clause (λ y. nat_le y c.args.asked) _ _
    c.partition_point.ensures.partitioned parted (λ a r f k. search rules) in
    below_inside c.args.list.now c.args.asked c.partition_point.result point
    (omega arith) c.partition_point.ensures.bound
