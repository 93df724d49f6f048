use Rattle.std.proofs.Common.{◌≡◌, ◌∙◌, ◌+◌, ◌-◌, ◌++◌, drop, arith, refl}
use Rattle.busy_times.specs.Draws.{marks_from}
use Rattle.busy_times.proofs.Marked.{length-marks, marks_split, marks_and_left}
use Rattle.busy_times.proofs.marks.add_standing.Goals as goal

pub places_before_near-near-requires : goal.places_before_near-near-requires
places_before_near-near-requires c = rw c.deref.ensures.value (c.loop-left.invariant.points c.requires.points.0 c.requires.points.1 c.requires.points.2).ordered

pub add_standing_mark-requires : goal.add_standing_mark-requires
add_standing_mark-requires c =
    let marks = marks_from c.args.start (drop c.args.from c.args.draws.now) in
    let count = length-marks c.args.start c.args.from c.args.draws.now c.requires.from in
    let now = marks_and_left c.requires.points.0 marks c.requires.points.1 c.loop-left.points.items c.loop-left.left c.loop-left.invariant.most (c.loop-left.invariant.points c.requires.points.0 c.requires.points.1 c.requires.points.2) in
    record { fits = omega (arith, c.requires.points.2.count, now, count, c.loop-left-test.true, c.requires.room, c.args.points.now.ok) }

pub returns-then-not-add_standing_mark-clause-points :
    goal.returns-then-not-add_standing_mark-clause-points
returns-then-not-add_standing_mark-clause-points c = λ held cycles are.
    rw (c.if-not-add_standing_mark.ensures.same refl) (c.loop-left.invariant.points held cycles are)

pub loop-left-preserved : goal.loop-left-preserved
loop-left-preserved c =
    let marks = marks_from c.args.start (drop c.args.from c.args.draws.now) in
    let more = c.loop-left.left - 1 in
    let most = c.loop-left.invariant.most in
    let left_is : c.loop-left.left ≡ more + 1 = omega (arith, c.loop-left-test.true) in
    record {
      most = omega (arith, most);
      points = (λ held cycles old.
          let before = rw left_is at (c.loop-left.invariant.points held cycles old) in
          let added = c.if-not-add_standing_mark.ensures.added refl held (drop (more + 1) marks ++ cycles) before in
          rw (marks_split marks cycles more c.mark_at-cycle.result (omega (arith, left_is, most)) c.mark_at-cycle.ensures) at added);
      capacity = c.add_standing_mark.ensures.capacity ∙ c.loop-left.invariant.capacity;
    }
