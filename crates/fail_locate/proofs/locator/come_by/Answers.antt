use Rattle.std.proofs.Common.{rules}
use Rattle.std.proofs.lemmas.List.Sorted.{IsPartitionPoint-from_clause}
use Rattle.fail_locate.specs.Locating.{comes_by}
use Rattle.fail_locate.proofs.SortedTests.{parted}
use Rattle.fail_locate.proofs.locator.come_by.Goals as goal

pub returns-clause-parts : goal.returns-clause-parts
returns-clause-parts c =
    IsPartitionPoint-from_clause (comes_by c.args.bus c.args.cycle) _ _ c.partition_point.ensures.partitioned (parted c.args.tests.now c.args.bus c.args.cycle c.requires) (λ a r q k. search rules)
