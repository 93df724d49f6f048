use Rattle.std.proofs.Common.{length, ap, ◌∙◌, arith}
use Rattle.std.proofs.lemmas.List.{length-append}
use Rattle.leaf_bounds.proofs.Trails.{back_here}
use Rattle.leaf_bounds.proofs.widths.undo_changes.Goals as goal

pub loop-step-init : goal.loop-step-init
loop-step-init c = record { later = λ before n l. l; count = λ less. omega arith }

pub loop-step-preserved : goal.loop-step-preserved
loop-step-preserved c = record {
  later = λ before n l.
      let count = c.loop-step.invariant.count (omega (arith, c.loop-step-test.true, c.loop-step.auto.step, c.changes-count.ensures)) in
      c.undo_last.ensures.later before (c.loop-step.invariant.later before n l) (omega (arith, n, count, c.loop-step-test.true, c.changes-count.ensures));
  count = λ less.
      let count = c.loop-step.invariant.count less in
      omega (arith, count, c.undo_last.ensures.shorter, c.loop-step-test.true, c.loop-step.auto.step, c.changes-count.ensures);
}

pub returns : goal.returns
returns c = λ before n roomy l.
    let more = ap length l.trail ∙ length-append before.trail.items l.changes in
    let count = c.loop-step.invariant.count (omega (arith, n, more)) in
    let end = c.loop-step.auto.step-end (omega (arith, n, more, c.changes-count.ensures)) in
    back_here (c.loop-step.invariant.later before n l) roomy (omega (arith, n, count, end, c.loop-step-test.false, c.changes-count.ensures))
