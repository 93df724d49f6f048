use Rattle.std.proofs.Common.{◌∙◌, ℕ, ◌+◌, ◌-◌, ◌/◌, ◌<◌, length, sym, arith}
use Rattle.resource_table.specs.Jobs.{job_value}
use Rattle.schedule_search.proofs.Sorting.{sorted_order, sorted_known, before_more, behind_more}
use Rattle.schedule_search.proofs.sorted.place_of.Goals as goal

pub loop-low-init : goal.loop-low-init
loop-low-init c = record {
  few = omega arith;
  most = omega arith;
  before = λ k less. absurd (omega (arith, less));
  behind = λ k from less. absurd (omega (arith, from, less));
}

pub goes_before-requires-clause-test : goal.goes_before-requires-clause-test
goes_before-requires-clause-test c =
    let middle : ℕ = c.loop-low.low + (c.loop-low.high - c.loop-low.low) / 2 in
    let within : middle < length c.args.tests.now = omega (arith, c.loop-low-test.true, c.loop-low.invariant.most) in
    sorted_known (job_value c.args.job.now) c.args.tests.now middle 0 c.requires.sorted within

pub loop-low-preserved-then-goes_before : goal.loop-low-preserved-then-goes_before
loop-low-preserved-then-goes_before c =
    let middle : ℕ = c.loop-low.low + (c.loop-low.high - c.loop-low.low) / 2 in
    let within : middle < length c.args.tests.now = omega (arith, c.loop-low-test.true, c.loop-low.invariant.most) in
    record {
      few = omega (arith, c.loop-low-test.true);
      most = c.loop-low.invariant.most;
      before = before_more (job_value c.args.job.now) c.args.tests.now middle c.args.test (sorted_order (job_value c.args.job.now) c.args.tests.now c.requires.sorted) within (sym c.goes_before.ensures ∙ c.if-goes_before.true);
      behind = c.loop-low.invariant.behind;
    }

pub loop-low-preserved : goal.loop-low-preserved
loop-low-preserved c =
    let middle : ℕ = c.loop-low.low + (c.loop-low.high - c.loop-low.low) / 2 in
    record {
      few = omega (arith, c.loop-low-test.true);
      most = omega (arith, c.loop-low-test.true, c.loop-low.invariant.most);
      before = c.loop-low.invariant.before;
      behind = behind_more (job_value c.args.job.now) c.args.tests.now middle c.args.test (sorted_order (job_value c.args.job.now) c.args.tests.now c.requires.sorted) (sym c.goes_before.ensures ∙ c.if-goes_before.false);
    }

pub returns : goal.returns
returns c = record {
  most = omega (arith, c.loop-low.invariant.few, c.loop-low.invariant.most);
  before = c.loop-low.invariant.before;
  behind = λ k from less. c.loop-low.invariant.behind k (omega (arith, from, c.loop-low-test.false)) less;
}
