use Rattle.std.proofs.Common.{◌≤◌, arith}
use Rattle.soc_model.specs.Chips.{soc_value}
use Rattle.plan_model.specs.Bounds.{module_bound}
use Rattle.plan_model.proofs.TurnBounds.{module_bounds}
use Rattle.bound_rules.proofs.module_bound.Goals as goal

pub returns-clause-sum : goal.returns-clause-sum
returns-clause-sum c = c.of_all.ensures.sum (soc_value c.args.soc.now) c.args.place c.of.ensures

pub returns-clause-bound : goal.returns-clause-bound
returns-clause-bound c = λ limits same plan good.
    let bound : module_bound (soc_value c.args.soc.now) limits.wires c.args.place ≤ plan.cycles = module_bounds (soc_value c.args.soc.now) limits c.args.place (omega (arith, c.requires.some_wire, same)) plan good in
    let bound' = rw same at bound in
    rw (returns-clause-sum c) bound'
