use Rattle.std.proofs.Common.{leb, leb-true, leb-false, rules}
use Rattle.std.proofs.lemmas.List.Sorted.{IsPartitionPoint-from_clause, IsPartitionedBy-leb}
use Rattle.busy_times.specs.declared.timelines.Span.{Span}
use Rattle.busy_times.proofs.timelines.ended_by.Goals as goal

pub returns-clause-parts : goal.returns-clause-parts
returns-clause-parts c =
    let parted = IsPartitionedBy-leb (λ (p : Span). p.to) _ c.args.cycle c.requires in
    let point = IsPartitionPoint-from_clause (λ (p : Span). leb p.to c.args.cycle) _ _ c.partition_point.ensures.partitioned parted (λ a r q k. search rules) in
    (λ k d low h. leb-true _ _ (point.0 k d low h), λ k d low h. leb-false _ _ (point.1 k d low h))
