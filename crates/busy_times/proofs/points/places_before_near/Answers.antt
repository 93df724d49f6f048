use Rattle.std.proofs.Common.{◌<◌, get_or, arith, subst}
use Rattle.busy_times.specs.Profiles.{no_point}
use Rattle.busy_times.proofs.Near.{parts_near}
use Rattle.busy_times.proofs.points.places_before_near.Goals as goal

pub places_from-requires-clause-ahead : goal.places_from-requires-clause-ahead
places_from-requires-clause-ahead c some = subst (λ n. (get_or c.args.points.now n no_point).cycle < c.args.cycle) (omega arith) (c.is_early.ensures.early c.if-is_early.true).1

pub returns-then-is_early-clause-parts : goal.returns-then-is_early-clause-parts
returns-then-is_early-clause-parts c = parts_near c.args.points.now c.args.cycle c.places_from.result c.requires c.places_from.ensures.bound c.places_from.ensures.late c.places_from.ensures.ahead

pub places_up_to-requires-clause-late : goal.places_up_to-requires-clause-late
places_up_to-requires-clause-late c inside = (c.is_passed.ensures.passed c.if-is_passed.true).1

pub returns-then-is_passed-clause-parts : goal.returns-then-is_passed-clause-parts
returns-then-is_passed-clause-parts c = parts_near c.args.points.now c.args.cycle c.places_up_to.result c.requires c.places_up_to.ensures.bound c.places_up_to.ensures.late c.places_up_to.ensures.ahead

pub returns-clause-parts : goal.returns-clause-parts
returns-clause-parts c = parts_near c.args.points.now c.args.cycle c.min-place.result c.requires (let most = c.min-place.ensures in omega (arith, most)) (c.is_early.ensures.late c.if-is_early.false) (c.is_passed.ensures.ahead c.if-is_passed.false)
