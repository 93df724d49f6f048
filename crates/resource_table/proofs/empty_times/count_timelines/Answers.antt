use Rattle.std.proofs.Common.{ℕ, ◌<◌, ◌≤◌, Option, None, Some, take, subst, ap, ◌∙◌, arith}
use Rattle.std.{specs.Prelude.IfSome, proofs.lemmas.List.Elements.All-more, proofs.lemmas.List.Elements.All-weaker}
use Rattle.resource_table.specs.{declared.JobTest.JobTest, Jobs.test_value, PlacedTimes.timeline_of}
use Rattle.resource_table.proofs.empty_times.count_timelines.Goals as goal

more_inside : (place : Option ℕ) (old new : ℕ) → old ≤ new → IfSome place (λ k. k < old) → IfSome place (λ k. k < new)
more_inside None old new le inside = tt
more_inside (Some k) old new le inside = omega (arith, le, inside)

pub loop-test-preserved : goal.loop-test-preserved
loop-test-preserved c =
    let place_of = λ (t : JobTest). timeline_of c.args.kind (test_value t) in
    let tests = c.args.tests.now in
    let at = c.loop-test.test-index in
    let test = c.test-item.result in
    let old = c.loop-test.count in
    let new = c.in_ok-count.count in
    All-more (λ (t : JobTest). IfSome (place_of t) (λ k. k < new)) tests at test c.loop-test-test.true
    (All-weaker (λ (t : JobTest). IfSome (place_of t) (λ k. k < old)) (λ (t : JobTest). IfSome (place_of t) (λ k. k < new)) (λ t inside. more_inside (place_of t) old new c.in_ok-count.ensures.from inside) (take at tests) c.loop-test.invariant)
    (subst (λ (o : Option ℕ). IfSome o (λ k. k < new)) (c.timeline_of.ensures ∙ ap place_of c.test-item.is) c.in_ok-count.ensures.place)
