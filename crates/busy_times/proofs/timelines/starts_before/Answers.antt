use Rattle.std.proofs.Common.{ltb, ltb-true, ltb-false, rules}
use Rattle.std.proofs.lemmas.List.Sorted.{IsPartitionPoint-from_clause, IsPartitionedBy-ltb}
use Rattle.busy_times.specs.declared.timelines.Span.{Span}
use Rattle.busy_times.proofs.timelines.starts_before.Goals as goal

pub returns-clause-parts : goal.returns-clause-parts
returns-clause-parts c =
    let parted = IsPartitionedBy-ltb (λ (p : Span). p.from) _ c.args.cycle c.requires in
    let point = IsPartitionPoint-from_clause (λ (p : Span). ltb p.from c.args.cycle) _ _ c.partition_point.ensures.partitioned parted (λ a r q k. search rules) in
    (λ k d low h. ltb-true _ _ (point.0 k d low h), λ k d low h. ltb-false _ _ (point.1 k d low h))
