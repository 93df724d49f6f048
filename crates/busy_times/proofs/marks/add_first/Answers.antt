use Rattle.std.proofs.Common.{◌≡◌, ◌∙◌, ◌+◌, ◌-◌, ◌++◌, drop, arith}
use Rattle.busy_times.specs.Draws.{marks_from}
use Rattle.busy_times.proofs.Marked.{length-marks, marks_split, marked_more, marks_and_left}
use Rattle.busy_times.proofs.marks.add_first.Goals as goal

pub open_gap-spare-requires-clause-ordered : goal.open_gap-spare-requires-clause-ordered
open_gap-spare-requires-clause-ordered c =
    (c.make_room.ensures.points c.requires.points.0 (drop c.args.first (marks_from c.args.start (drop c.args.from c.args.draws.now)) ++ c.requires.points.1) c.requires.points.3).ordered

pub loop-left-init : goal.loop-left-init
loop-left-init c =
    let marks = marks_from c.args.start (drop c.args.from c.args.draws.now) in
    record {
      most = omega (arith, length-marks c.args.start c.args.from c.args.draws.now c.requires.from, c.requires.first);
      points = (λ held cycles marked old. c.open_gap-spare.ensures.points held (drop c.args.first marks ++ cycles) (c.make_room.ensures.points held (drop c.args.first marks ++ cycles) old));
      capacity = c.open_gap-spare.ensures.capacity ∙ c.make_room.ensures.capacity;
    }

pub add_next_mark-requires-clause-room : goal.add_next_mark-requires-clause-room
add_next_mark-requires-clause-room c =
    let marks = marks_from c.args.start (drop c.args.from c.args.draws.now) in
    let count = length-marks c.args.start c.args.from c.args.draws.now c.requires.from in
    let held = c.requires.points.0 in
    let cycles = c.requires.points.1 in
    let before = marks_and_left held marks cycles c.args.points.now.items c.args.first (omega (arith, count, c.requires.first)) c.requires.points.3 in
    let now = marks_and_left held marks cycles c.loop-left.points.items c.loop-left.left c.loop-left.invariant.most (c.loop-left.invariant.points held cycles c.requires.points.2 c.requires.points.3) in
    omega (arith, before, now, c.loop-left-test.true, c.loop-left.invariant.capacity, c.requires.room)

pub add_next_mark-requires-clause-points : goal.add_next_mark-requires-clause-points
add_next_mark-requires-clause-points c = (
  c.requires.points.0,
  drop c.loop-left.left (marks_from c.args.start (drop c.args.from c.args.draws.now)) ++ c.requires.points.1,
  c.loop-left.invariant.points c.requires.points.0 c.requires.points.1 c.requires.points.2 c.requires.points.3,
)

pub loop-left-preserved : goal.loop-left-preserved
loop-left-preserved c =
    let marks = marks_from c.args.start (drop c.args.from c.args.draws.now) in
    let more = c.loop-left.left - 1 in
    let most = c.loop-left.invariant.most in
    let left_is : c.loop-left.left ≡ more + 1 = omega (arith, c.loop-left-test.true) in
    record {
      most = omega (arith, most);
      points = (λ held cycles marked old.
          let before = rw left_is at (c.loop-left.invariant.points held cycles marked old) in
          let added = c.add_next_mark.ensures.points held (drop (more + 1) marks ++ cycles) (marked_more held (drop (more + 1) marks) cycles marked) before in
          rw (marks_split marks cycles more c.mark_at-cycle.result (omega (arith, left_is, most)) c.mark_at-cycle.ensures) at added);
      capacity = c.add_next_mark.ensures.capacity ∙ c.loop-left.invariant.capacity;
    }
