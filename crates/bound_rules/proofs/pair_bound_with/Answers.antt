use Rattle.std.proofs.Common.{◌≡◌, ◌≤◌, ◌∙◌, Some, sym, arith}
use Rattle.soc_model.specs.Chips.{soc_value, parent_place}
use Rattle.soc_model.proofs.Parents.{IsParent-from_place}
use Rattle.plan_model.specs.Bounds.{pair_bound}
use Rattle.plan_model.proofs.TurnBounds.{pair_bounds}
use Rattle.bound_rules.proofs.pair_bound_with.Goals as goal

pub module_bound-requires-clause-place : goal.module_bound-requires-clause-place
module_bound-requires-clause-place c =
    let is : parent_place (soc_value c.args.soc.now).modules c.args.place ≡ Some c.in-Some.above = sym c.requires.parent ∙ c.in-Some.is in
    omega (arith, (IsParent-from_place (soc_value c.args.soc.now).modules c.in-Some.above c.args.place is).earlier, c.requires.place)

pub returns-in-Some-clause-bound : goal.returns-in-Some-clause-bound
returns-in-Some-clause-bound c = λ limits same plan good.
    let is : parent_place (soc_value c.args.soc.now).modules c.args.place ≡ Some c.in-Some.above = sym c.requires.parent ∙ c.in-Some.is in
    let bound : pair_bound (soc_value c.args.soc.now) limits.wires c.in-Some.above c.args.place ≤ plan.cycles =
    pair_bounds (soc_value c.args.soc.now) limits c.in-Some.above c.args.place (omega (arith, c.requires.some_wire, same)) (IsParent-from_place (soc_value c.args.soc.now).modules c.in-Some.above c.args.place is) plan good in
    let bound' = rw same at bound in
    rw (c.module_bound.ensures.sum, c.module_bound-in-Some.ensures.sum) bound'
