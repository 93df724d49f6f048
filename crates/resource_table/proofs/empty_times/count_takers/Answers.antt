use Rattle.std.proofs.Common.{◌≡◌, ℕ, ◌+◌, get_or, length, take, ◌∙◌, ap, sym, arith}
use Rattle.std.{specs.Prelude.if◌then◌else◌, specs.List.sum_by, proofs.lemmas.List.with_items_is, proofs.lemmas.List.Sums.sum_by_more}
use Rattle.resource_table.specs.{declared.JobTest.JobTest, Jobs.test_value, Schedules.is_at}
use Rattle.resource_table.specs.PlacedTimes.{timeline_of, takes}
use Rattle.resource_table.proofs.PlacedTimes.{few_takers}
use Rattle.resource_table.proofs.empty_times.count_takers.Goals as goal

pub count_one-requires-clause-fits : goal.count_one-requires-clause-fits
count_one-requires-clause-fits c =
    let is = c.timeline_of.ensures ∙ ap (λ t. timeline_of c.args.kind (test_value t)) c.test-item.is in
    let inside = rw (← is) at (c.requires c.loop-test.test-index c.test-item.result c.loop-test-test.true) in
    rw c.deref_mut.ensures.value (few_takers c.timeline_of.result c.loop-test.counts.items c.args.kind c.args.tests.now c.loop-test.test-index (let some = c.loop-test-test.true in omega arith)
    (rw c.loop-test.invariant.long inside)
    (rw c.loop-test.invariant.long c.loop-test.invariant.counts))

pub loop-test-preserved : goal.loop-test-preserved
loop-test-preserved c =
    let tests = c.args.tests.now in
    let at = c.loop-test.test-index in
    let counted = λ (k : ℕ) (t : JobTest). if takes c.args.kind k (test_value t) then 1 else 0 in
    let old = c.deref_mut.ensures.value in
    let as_long = c.count_one.auto.counts ∙ ap length old in
    let whole = with_items_is c.loop-test.counts c.count_one.new.counts (as_long ∙ sym c.loop-test.counts.ok.0) in
    record {
      long = rw whole (as_long ∙ c.loop-test.invariant.long);
      counts = (λ k lt.
          let inside = rw (← (ap length old ∙ c.loop-test.invariant.long)) at lt in
          let here = ap (counted k) c.test-item.is in
          let before = ap (λ v. get_or v k 0) old ∙ c.loop-test.invariant.counts k lt in
          let more = sum_by_more (counted k) tests at c.test-item.result c.loop-test-test.true in
          let added = c.count_one.ensures k inside ∙ ap (λ o. get_or c.deref_mut.result.now k 0 + (if is_at o k then 1 else 0)) c.timeline_of.ensures in
          let now : get_or c.count_one.new.counts k 0 ≡ sum_by (counted k) (take (at + 1) tests) = omega (arith, added, before, more, here) in
          rw whole now);
    }
