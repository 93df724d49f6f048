use Rattle.std.proofs.Common.{◌∙◌, ◌<◌, ◌+◌, ◌++◌, length, drop, arith}
use Rattle.std.proofs.lemmas.List.{drop_all}
use Rattle.busy_times.specs.Draws.{marks_from}
use Rattle.busy_times.proofs.Marked.{length-marks, marks_split, mark_there}
use Rattle.busy_times.proofs.marks.remove_marks.Goals as goal

pub loop-gone-preserved : goal.loop-gone-preserved
loop-gone-preserved c =
    let marks = marks_from c.args.start (drop c.args.from c.args.draws.now) in
    let lt : c.loop-gone.gone < length marks = omega (arith, length-marks c.args.start c.args.from c.args.draws.now c.requires.from, c.loop-gone-test.true) in
    record {
      few = omega (arith, lt);
      points = (λ held cycles old.
          c.remove_mark-near.ensures.points held (drop (c.loop-gone.gone + 1) marks ++ cycles)
          (rw (marks_split marks cycles c.loop-gone.gone c.mark_at-cycle.result lt c.mark_at-cycle.ensures) (c.loop-gone.invariant.points held cycles old)));
      capacity = c.remove_mark-near.ensures.capacity ∙ c.loop-gone.invariant.capacity;
    }

pub remove_mark-near-requires-clause-ordered : goal.remove_mark-near-requires-clause-ordered
remove_mark-near-requires-clause-ordered c = (c.loop-gone.invariant.points c.requires.points.0 c.requires.points.1 c.requires.points.2).ordered

pub remove_mark-near-requires-clause-there : goal.remove_mark-near-requires-clause-there
remove_mark-near-requires-clause-there c =
    let marks = marks_from c.args.start (drop c.args.from c.args.draws.now) in
    let count = length-marks c.args.start c.args.from c.args.draws.now c.requires.from in
    let more = c.loop-gone-test.true in
    mark_there c.requires.points.0 marks c.requires.points.1 c.loop-gone.points.items c.loop-gone.gone c.mark_at-cycle.result (omega (arith, count, more)) c.mark_at-cycle.ensures (c.loop-gone.invariant.points c.requires.points.0 c.requires.points.1 c.requires.points.2)

pub returns-clause-points : goal.returns-clause-points
returns-clause-points c = λ held cycles old.
    let count = length-marks c.args.start c.args.from c.args.draws.now c.requires.from in
    let none = drop_all c.loop-gone.gone (marks_from c.args.start (drop c.args.from c.args.draws.now)) (omega (arith, count, c.loop-gone-test.false)) in
    rw none at (c.loop-gone.invariant.points held cycles old)
