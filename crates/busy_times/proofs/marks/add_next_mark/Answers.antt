use Rattle.std.proofs.Common.{◌∙◌, arith, ap}
use Rattle.busy_times.specs.Profiles.{load_before}
use Rattle.busy_times.proofs.Gaps.{spare_taken}
use Rattle.busy_times.proofs.marks.add_next_mark.Goals as goal

pub returns-then-takes_spare-clause-points : goal.returns-then-takes_spare-clause-points
returns-then-takes_spare-clause-points c = λ held cycles marked are.
    let items = c.args.points.now.items in
    let place = c.places_before_near-place.result in
    let spare = c.args.spare in
    let parts = rw c.deref.ensures.value at c.places_before_near-place.ensures.parts in
    let found = c.takes_spare.ensures.spare c.if-takes_spare.true in
    let within = rw c.deref-2.ensures.value at found.1 in
    let unused = rw c.deref-2.ensures.value at found.2 in
    let none = rw c.deref-2.ensures.value at (c.takes_spare.ensures.missing c.if-takes_spare.true) in
    let load = c.load_before-load.ensures ∙ ap (λ v. load_before v place) c.deref-then-takes_spare.ensures.value in
    rw c.put_over.ensures.items (spare_taken held cycles items place spare c.load_before-load.result c.args.cycle marked are found.0 within unused parts none load)

pub add_mark-requires-clause-fits : goal.add_mark-requires-clause-fits
add_mark-requires-clause-fits c =
    let after = (c.make_room.ensures.points c.requires.points.0 c.requires.points.1 c.requires.points.2).count in
    omega (arith, c.requires.points.2.count, after, c.requires.room, c.args.points.now.ok)

pub add_mark-requires-clause-ordered : goal.add_mark-requires-clause-ordered
add_mark-requires-clause-ordered c = (c.make_room.ensures.points c.requires.points.0 c.requires.points.1 c.requires.points.2).ordered

pub returns-clause-points : goal.returns-clause-points
returns-clause-points c = λ held cycles marked are. c.add_mark.ensures.points held cycles marked (c.make_room.ensures.points held cycles are)
