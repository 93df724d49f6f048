use Rattle.std.proofs.Common.{◌+◌, arith}
use Rattle.leaf_bounds.specs.Bases.{chip_of}
use Rattle.leaf_bounds.proofs.LeafTests.{starts_long, start_is, before_grows, before_within, module_uses}
use Rattle.common_lemmas.proofs.Lists.{some_item}
use Rattle.leaf_bounds.proofs.leaf_costs.module_cost.Goals as goal

pub start_at-from-requires : goal.start_at-from-requires
start_at-from-requires c = omega (arith, starts_long c.requires.basis.tests, c.requires.place)

pub start_at-to-requires : goal.start_at-to-requires
start_at-to-requires c = omega (arith, starts_long c.requires.basis.tests, c.requires.place)

pub costs_between-requires-clause-from : goal.costs_between-requires-clause-from
costs_between-requires-clause-from c =
    let m = some_item (chip_of c.args.basis.now).modules c.args.place c.requires.place in
    let to = start_is (c.args.place + 1) c.requires.basis.tests c.start_at-to.ensures in
    omega (arith, start_is c.args.place c.requires.basis.tests c.start_at-from.ensures, to, before_grows (chip_of c.args.basis.now) c.args.place m.1)

pub costs_between-requires-clause-to : goal.costs_between-requires-clause-to
costs_between-requires-clause-to c =
    let to = start_is (c.args.place + 1) c.requires.basis.tests c.start_at-to.ensures in
    omega (arith, to, before_within (chip_of c.args.basis.now) (c.args.place + 1))

pub returns-clause-cost : goal.returns-clause-cost
returns-clause-cost c = λ weights weighed.
    let m = some_item (chip_of c.args.basis.now).modules c.args.place c.requires.place in
    let to = start_is (c.args.place + 1) c.requires.basis.tests c.start_at-to.ensures in
    let time = rw c.requires.basis.times at c.tam_time-time.ensures.time in
    let total = rw ((start_is c.args.place c.requires.basis.tests c.start_at-from.ensures), to) at (c.costs_between.ensures.sum weights weighed) in
    rw (c.rated.ensures.rated, time) (module_uses c.args.basis.now weights c.args.place c.args.rank c.args.width c.args.rate c.costs_between.result m.1 total)
