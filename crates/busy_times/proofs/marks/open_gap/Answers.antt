use Rattle.std.proofs.Common.{◌≡◌, ◌∙◌, ◌+◌, ◌-◌, ◌++◌, ◌<◌, length, get_or, take, drop, replicate, arith, ap}
use Rattle.busy_times.specs.{declared.points.Point.Point, Profiles.no_point}
use Rattle.busy_times.proofs.Gaps.{spares_put}
use Rattle.busy_times.proofs.marks.open_gap.Goals as goal

pub returns-clause-points : goal.returns-clause-points
returns-clause-points c = λ held cycles are.
    let items = c.args.points.now.items in
    let place = c.places_before_near-place.result in
    let bound = rw c.deref.ensures.value at c.places_before_near-place.ensures.bound in
    let inside : place < length items = (let many = c.if-len-place-lt-MANY_BEHIND.false in omega (arith, bound, many, c.len.ensures, c.args.points.now.ok)) in
    let here : place + 1 - 1 ≡ place = omega arith in
    rw (c.put_spares.ensures.items ∙ ap (λ k. take (place + 1) items ++ (replicate c.missing-more.result (let p : Point = record { cycle = (get_or items k no_point).cycle; load = (get_or items k no_point).load; uses = 0 } in p) ++ drop (place + 1) items)) here) (spares_put held cycles items place c.missing-more.result are inside)
