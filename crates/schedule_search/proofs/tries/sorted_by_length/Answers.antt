use Rattle.std.proofs.Common.{◌≡◌, ◌∙◌, ◌+◌, ◌++◌, ◌∷◌, [], map, ap, refl, arith}
use Rattle.std.specs.List.{range_with_len}
use Rattle.std.proofs.lemmas.List.{length-map}
use Rattle.resource_table.specs.Jobs.{job_value, test_value}
use Rattle.schedule_search.proofs.SortedTests.{turn_at, order_from_sort}
use Rattle.schedule_search.proofs.tries.sorted_by_length.Goals as goal
use Rattle.common_lemmas.proofs.Ranges.{range_push}

pub loop-place-preserved : goal.loop-place-preserved
loop-place-preserved c =
    let job = job_value c.args.job.now in
    let e : map (turn_at job) (range_with_len 0 (c.loop-place.place + 1)) ≡ map (turn_at job) (range_with_len 0 c.loop-place.place) ++ turn_at job c.loop-place.place ∷ [] = range_push (turn_at job) c.loop-place.place in
    c.in_ok-push.ensures.ok ∙ rw (e, c.loop-place.invariant, c.cycles_at.ensures) refl

pub returns : goal.returns
returns c = order_from_sort (job_value c.args.job.now) c.loop-place.by_length.items c.sort_unstable.new.self.items (c.loop-place.invariant ∙ ap (λ v. map (turn_at (job_value c.args.job.now)) (range_with_len 0 v)) (omega (arith, length-map c.args.job.now.tests.items test_value))) c.sort_unstable.ensures.permutation c.sort_unstable.ensures.sorted

pub cycles_at-requires : goal.cycles_at-requires
cycles_at-requires c = omega (arith, c.loop-place-test.true, c.len-place-end.ensures, c.args.job.now.tests.ok.0, length-map c.args.job.now.tests.items test_value)
