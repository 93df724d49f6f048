use Rattle.std.proofs.Common.{◌≤◌, ◌∙◌, refl, arith}
use Rattle.soc_model.specs.Chips.{soc_value}
use Rattle.plan_model.specs.Bounds.{area_bound}
use Rattle.plan_model.proofs.PowerAndAreaBounds.{area_bounds}
use Rattle.bound_rules.proofs.widths.area_bound.Goals as goal

pub returns-clause-quotient : goal.returns-clause-quotient
returns-clause-quotient c = c.quotient_up.ensures.quotient ∙ rw (c.from.ensures, c.total_area.ensures.sum c.args.wires c.requires.some_wire) refl

pub returns-clause-bound : goal.returns-clause-bound
returns-clause-bound c = λ limits same plan good.
    let bound : area_bound (soc_value c.args.soc.now) limits.wires ≤ plan.cycles = area_bounds (soc_value c.args.soc.now) limits (omega (arith, c.requires.some_wire, same)) plan good in
    let bound' = rw same at bound in
    rw (returns-clause-quotient c) bound'
