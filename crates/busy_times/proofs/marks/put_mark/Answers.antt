use Rattle.std.proofs.Common.{◌∙◌, arith, ap, insert}
use Rattle.busy_times.specs.{declared.points.Point.Point, Profiles.load_before}
use Rattle.busy_times.proofs.{Profiles.point_added, Marked.load_between}
use Rattle.busy_times.proofs.marks.put_mark.Goals as goal

pub returns-then-add_standing_mark-clause-points :
    goal.returns-then-add_standing_mark-clause-points
returns-then-add_standing_mark-clause-points c = λ held cycles marked are. c.add_standing_mark.ensures.added c.if-add_standing_mark.true held cycles are

pub returns-clause-points : goal.returns-clause-points
returns-clause-points c = λ held cycles marked are.
    let items = c.args.points.now.items in
    let place = c.args.place in
    let cycle = c.args.cycle in
    let parts = c.requires.parts in
    let none = c.add_standing_mark.ensures.missing c.if-add_standing_mark.false in
    let same = c.add_standing_mark.ensures.same c.if-add_standing_mark.false in
    let le = c.requires.place in
    let load = c.load_before-load.ensures ∙ ap (λ v. load_before v place) (c.deref.ensures.value ∙ same) ∙ load_between held cycles items place cycle marked are le parts none in
    rw (c.put_point.ensures.items ∙ ap (λ v. insert v place (let p : Point = record { cycle = cycle; load = c.load_before-load.result; uses = 1 } in p)) same) (point_added held cycles items place c.load_before-load.result cycle are le (λ k d lt. (let early = parts.0 k d (omega arith) lt in omega (arith, early))) (λ k d low high. parts.1 k d low high) load)
