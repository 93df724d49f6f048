use Rattle.std.proofs.Common.{drop, arith}
use Rattle.busy_times.specs.Draws.{marks_from}
use Rattle.busy_times.proofs.Marked.{length-marks, marks_and_left}
use Rattle.busy_times.proofs.marks.add_marks.Goals as goal

pub returns-then-left-eq0-clause-points : goal.returns-then-left-eq0-clause-points
returns-then-left-eq0-clause-points c = λ held cycles marked are.
    rw c.if-left-eq0.true at (c.add_standing-left.ensures.points held cycles are)

pub add_first-requires-clause-room : goal.add_first-requires-clause-room
add_first-requires-clause-room c =
    let marks = marks_from c.args.start (drop c.args.from c.args.draws.now) in
    let count = length-marks c.args.start c.args.from c.args.draws.now c.requires.from in
    let now = marks_and_left c.requires.points.0 marks c.requires.points.1 c.add_standing-left.new.points.items c.add_standing-left.result.0 (omega (arith, count, c.add_standing-left.ensures.left)) (c.add_standing-left.ensures.points c.requires.points.0 c.requires.points.1 c.requires.points.3) in
    omega (arith, c.requires.points.3.count, now, count, c.add_standing-left.ensures.capacity, c.requires.room)

pub add_first-requires-clause-points : goal.add_first-requires-clause-points
add_first-requires-clause-points c = (c.requires.points.0, c.requires.points.1, c.requires.points.2, c.add_standing-left.ensures.points c.requires.points.0 c.requires.points.1 c.requires.points.3)

pub returns-clause-points : goal.returns-clause-points
returns-clause-points c = λ held cycles marked are. c.add_first.ensures.points held cycles marked (c.add_standing-left.ensures.points held cycles are)
