use Rattle.std.proofs.Common.{◌+◌, arith}
use Rattle.soc_model.specs.Chips.{live_tests}
use Rattle.leaf_bounds.specs.Bases.{chip_of}
use Rattle.leaf_bounds.specs.LeafCosts.{kind_cost}
use Rattle.leaf_bounds.proofs.LeafTests.{next_cost, costs_fit}
use Rattle.common_lemmas.proofs.Lists.{some_item}
use Rattle.leaf_bounds.proofs.leaf_costs.costs_between.Goals as goal

pub overflow_add-sum : goal.overflow_add-sum
overflow_add-sum c =
    let w = c.requires.weighed in
    let l = some_item (live_tests (chip_of c.args.basis.now)) c.loop-test.test (omega (arith, c.loop-test-test.true, c.requires.to)) in
    let more = next_cost (kind_cost c.args.basis.now w.0 c.args.wires c.args.rank c.args.width) (live_tests (chip_of c.args.basis.now))
    c.loop-test.test c.loop-test.sum l.1 (c.kind_cost-sum.ensures w.0 l.0 w.1 l.1) (c.loop-test.invariant w.0 w.1) in
    omega (arith, costs_fit c.args.wires c.args.rank c.args.width c.args.from (c.loop-test.test + 1) (c.loop-test.sum + c.kind_cost-sum.result) c.requires.basis w.1.uses c.requires.some_wire more)

pub loop-test-preserved : goal.loop-test-preserved
loop-test-preserved c = λ weights weighed.
    let l = some_item (live_tests (chip_of c.args.basis.now)) c.loop-test.test (omega (arith, c.loop-test-test.true, c.requires.to)) in
    next_cost (kind_cost c.args.basis.now weights c.args.wires c.args.rank c.args.width) (live_tests (chip_of c.args.basis.now))
    c.loop-test.test c.loop-test.sum l.1 (c.kind_cost-sum.ensures weights l.0 weighed l.1) (c.loop-test.invariant weights weighed)

pub returns-clause-small : goal.returns-clause-small
returns-clause-small c =
    let w = c.requires.weighed in
    costs_fit c.args.wires c.args.rank c.args.width c.args.from c.loop-test.test c.loop-test.sum c.requires.basis w.1.uses c.requires.some_wire (c.loop-test.invariant w.0 w.1)
