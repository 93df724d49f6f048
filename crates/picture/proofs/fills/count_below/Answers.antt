use Rattle.std.proofs.Common.{ltb, rules}
use Rattle.std.proofs.lemmas.List.Sorted.{IsPartitionPoint-from_clause, IsPartitionedBy-ltb}
use Rattle.picture.proofs.StartsCounted.{count_point}
use Rattle.picture.proofs.fills.count_below.Goals as goal

pub returns : goal.returns
returns c =
    let parted = IsPartitionedBy-ltb (λ x. x) _ c.args.key c.requires in
    let point = IsPartitionPoint-from_clause (λ k. ltb k c.args.key) _ _ c.partition_point.ensures.partitioned parted (λ a r q k. search rules) in
    count_point (λ k. ltb k c.args.key) c.args.keys.now c.partition_point.result c.partition_point.ensures.bound point
