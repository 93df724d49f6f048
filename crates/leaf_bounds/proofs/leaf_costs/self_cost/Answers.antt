use Rattle.std.proofs.Common.{rules, ◌≡◌, length, arith}
use Rattle.leaf_bounds.proofs.LeafTests.{self_uses}
use Rattle.leaf_bounds.proofs.leaf_costs.self_cost.Goals as goal

pub returns-clause-cost : goal.returns-clause-cost
returns-clause-cost c = λ weights weighed.
    let long : c.len.result ≡ length c.args.basis.now.tests.tests.items = search rules in
    self_uses c.args.basis.now weights c.costs_between.result c.len.result (omega (arith, long, c.requires.basis.tests.tests.long)) (c.costs_between.ensures.sum weights weighed)
