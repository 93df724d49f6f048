use Rattle.std.proofs.Common.{◌≡◌, ◌+◌, drop, sum_by}
use Rattle.soc_model.specs.Chips.{live_tests}
use Rattle.plan_model.specs.Proofs.{WeightsValue}
use Rattle.leaf_bounds.specs.Bases.{chip_of}
use Rattle.leaf_bounds.specs.LeafCosts.{IsWeighed, kind_cost}
use Rattle.leaf_bounds.proofs.leaf_costs.costs_between.Given as goal

abbrev pub invariant-loop-test : goal.invariant-loop-test
invariant-loop-test l = (weights : WeightsValue) → IsWeighed l.basis weights l.room →
    l.sum + sum_by (kind_cost l.basis weights l.wires l.rank l.width) (drop l.test (live_tests (chip_of l.basis)))
    ≡ sum_by (kind_cost l.basis weights l.wires l.rank l.width) (drop l.from (live_tests (chip_of l.basis)))
