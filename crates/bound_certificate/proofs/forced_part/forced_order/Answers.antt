use Rattle.std.proofs.Common.{◌+◌, ◌-◌, ◌++◌, ◌≤◌, ◌∙◌, length, ap, arith}
use Rattle.std.proofs.lemmas.List.{length-map}
use Rattle.std.proofs.lemmas.List.FromFn.{length-range_with_len}
use Rattle.soc_model.specs.Chips.{soc_value}
use Rattle.bound_certificate.specs.Best.{places, with_need, by_need}
use Rattle.bound_certificate.specs.Needs.{need_or_zero}
use Rattle.bound_certificate.proofs.Orders.{of_need_is, next_need}
use Rattle.bound_certificate.proofs.forced_part.forced_order.Goals as goal

pub push_with_need-requires-clause-long : goal.push_with_need-requires-clause-long
push_with_need-requires-clause-long c =
    rw (c.deref.ensures.value, c.in_ok-needs.ensures, ← c.problem.view_is) (length-map (places (soc_value c.problem.inside.soc.now)) (need_or_zero (soc_value c.problem.inside.soc.now) c.problem.inside.limits.now.wires c.args.claimed) ∙ length-range_with_len 0 (length (soc_value c.problem.inside.soc.now).modules))

pub loop-step-preserved : goal.loop-step-preserved
loop-step-preserved c =
    let needs = rw (← c.problem.view_is) at (c.deref.ensures.value ∙ c.in_ok-needs.ensures) in
    let before = rw (← c.problem.view_is) at c.loop-step.invariant in
    let some : 1 ≤ c.problem.inside.limits.now.wires + 1 - c.loop-step.step = omega (arith, c.loop-step-test.true) in
    let same = of_need_is (soc_value c.problem.inside.soc.now) c.problem.inside.limits.now.wires c.args.claimed (c.problem.inside.limits.now.wires + 1 - c.loop-step.step) c.deref.result.now some needs in
    rw (← c.problem.view_is) (next_need (with_need (soc_value c.problem.inside.soc.now) c.problem.inside.limits.now.wires c.args.claimed) (c.problem.inside.limits.now.wires + 1 - c.loop-step.step) (c.problem.inside.limits.now.wires + 1 - (c.loop-step.step + 1)) c.loop-step.order.items c.push_with_need.new.order.items
    (by_need (soc_value c.problem.inside.soc.now) c.problem.inside.limits.now.wires c.args.claimed) (omega (arith, c.loop-step-test.true)) before (c.in_ok-push_with_need.ensures ∙ ap (λ r. c.loop-step.order.items ++ r) same))
