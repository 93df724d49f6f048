use Rattle.std.proofs.Common.{◌≡◌, ◌∙◌, ap}
use Rattle.soc_model.specs.Chips.{soc_value}
use Rattle.bound_certificate.specs.Best.{by_need, up_to}
use Rattle.bound_certificate.proofs.forced_part.forced_part.Goals as goal

pub returns : goal.returns
returns c =
    let made = rw (← c.problem.view_is) at c.in_ok-order.ensures in
    let order : c.deref.result.now ≡ by_need (soc_value c.problem.inside.soc.now) c.problem.inside.limits.now.wires c.args.claimed = c.deref.ensures.value ∙ made in
    rw (← c.problem.view_is) (c.forced_breach-place.result, rw order at c.forced_breach-place.ensures, c.cut_order.ensures ∙ ap (up_to c.forced_breach-place.result) made)
