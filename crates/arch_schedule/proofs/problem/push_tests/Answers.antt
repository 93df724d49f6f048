use Rattle.std.proofs.Common.{◌∙◌, ◌+◌, ◌≤◌, List, length, ap, subst, filter}
use Rattle.std.proofs.lemmas.List.{take_all}
use Rattle.soc_model.specs.declared.Test.{Test}
use Rattle.soc_model.specs.Chips.{is_live}
use Rattle.arch_schedule.proofs.Listing.{live_more}
use Rattle.arch_schedule.proofs.problem.push_tests.Goals as goal

pub loop-test-preserved : goal.loop-test-preserved
loop-test-preserved c = record {
  timed = λ modules number all. c.in_ok-push_test.ensures.timed modules number (c.loop-test.invariant.timed modules number all);
  count = live_more c.args.«module».now.tests.items c.deref-test-items.result.now c.loop-test.test-index _ (length c.loop-test.tests.items) (length c.push_test.new.tests.items) (length c.args.tests.now.items) c.deref-test-items.ensures.value c.loop-test-test.true c.loop-test.invariant.count c.in_ok-push_test.ensures.count;
}

pub returns-clause-count : goal.returns-clause-count
returns-clause-count c =
    let past = subst (λ (l : List Test). length l ≤ c.loop-test.test-index) c.deref-test-items.ensures.value c.loop-test-test.false in
    c.loop-test.invariant.count ∙ ap (λ (l : List Test). length c.args.tests.now.items + length (filter is_live l)) (take_all c.loop-test.test-index c.args.«module».now.tests.items past)
