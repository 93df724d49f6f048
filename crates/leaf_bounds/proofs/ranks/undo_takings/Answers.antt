use Rattle.std.proofs.Common.{length, ap, ◌∙◌, arith}
use Rattle.std.proofs.lemmas.List.{length-append}
use Rattle.leaf_bounds.proofs.ranks.undo_takings.Goals as goal

pub loop-step-init : goal.loop-step-init
loop-step-init c = record { after = λ before n a. a; count = λ less. omega arith }

pub loop-step-preserved : goal.loop-step-preserved
loop-step-preserved c = record {
  after = λ before n a.
      let count = c.loop-step.invariant.count (omega (arith, c.loop-step-test.true, c.loop-step.auto.step, c.takings-count.ensures)) in
      c.undo_last.ensures.after before (c.loop-step.invariant.after before n a) (omega (arith, n, count, c.loop-step-test.true, c.takings-count.ensures));
  count = λ less.
      let count = c.loop-step.invariant.count less in
      omega (arith, count, c.undo_last.ensures.shorter, c.loop-step-test.true, c.loop-step.auto.step, c.takings-count.ensures);
}

pub returns : goal.returns
returns c = λ before n a.
    let more = ap length a.trail ∙ length-append before.trail.items a.taken in
    let count = c.loop-step.invariant.count (omega (arith, n, more)) in
    let end = c.loop-step.auto.step-end (omega (arith, n, more, c.takings-count.ensures)) in
    record { after_it = c.loop-step.invariant.after before n a; long = omega (arith, n, count, end, c.loop-step-test.false, c.takings-count.ensures) }
