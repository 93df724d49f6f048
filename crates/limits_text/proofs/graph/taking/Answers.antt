use Rattle.std.proofs.Common.{◌<◌, ◌≤◌, ℕ, List, length, sym, subst, arith, All, slice_index}
use Rattle.live_tests.specs.Neighbours.{after}
use Rattle.limits_text.specs.Orders.{copies}
use Rattle.limits_text.proofs.Taking.{counts_held, IsStep, starts, goes_step, all_taken, few_taken, after_within, enough_held, test_small, listed}
use Rattle.limits_text.proofs.graph.taking.Goals as goal

pub loop-done-init : goal.loop-done-init
loop-done-init c =
    starts c.args.pairs.now c.args.count c.in_ok-counts.counts.items c.in_ok-order.order.items c.in_ok-counts.ensures.long (counts_held c.args.count c.in_ok-counts.counts.items c.args.pairs.now c.in_ok-counts.ensures.long c.in_ok-counts.ensures.counts)
    (let e = c.in_ok-order.ensures in let s = c.as_slice.ensures.value in rw s at e)

pub index-requires : goal.index-requires
index-requires c =
    omega (arith, test_small c.loop-done.invariant (omega (arith, c.loop-done-test.true, c.len.ensures)) c.index-test.ensures, c.in_ok-lists.ensures.long)

-- the tests that are looked up are those after the test
pub release_tests-requires-clause-within : goal.release_tests-requires-clause-within
release_tests-requires-clause-within c =
    let small = test_small c.loop-done.invariant (omega (arith, c.loop-done-test.true, c.len.ensures)) c.index-test.ensures in
    let is = listed c.in_ok-lists.lists.items c.args.pairs.now c.args.count c.index-test.result.now c.index.result.now c.as_slice-in-loop-done.result.now c.in_ok-lists.ensures.long c.in_ok-lists.ensures.lists small c.index.ensures c.as_slice-in-loop-done.ensures.value in
    subst (λ (l : List ℕ). All (λ j. j < length c.loop-done.counts.items) l) (sym is)
    (subst (λ n. All (λ j. j < n) (after c.index-test.result.now c.args.pairs.now)) (sym c.loop-done.invariant.long) (after_within c.args.count c.index-test.result.now c.args.pairs.now c.requires))

pub release_tests-requires-clause-held : goal.release_tests-requires-clause-held
release_tests-requires-clause-held c =
    let less : c.loop-done.done < length c.loop-done.order.items = omega (arith, c.loop-done-test.true, c.len.ensures) in
    let small = test_small c.loop-done.invariant less c.index-test.ensures in
    let is = listed c.in_ok-lists.lists.items c.args.pairs.now c.args.count c.index-test.result.now c.index.result.now c.as_slice-in-loop-done.result.now c.in_ok-lists.ensures.long c.in_ok-lists.ensures.lists small c.index.ensures c.as_slice-in-loop-done.ensures.value in
    subst (λ (l : List ℕ). (j : ℕ) → j < length c.loop-done.counts.items → copies l j ≤ slice_index c.loop-done.counts.items j) (sym is)
    (enough_held c.loop-done.invariant less c.index-test.ensures)

pub loop-done-preserved : goal.loop-done-preserved
loop-done-preserved c =
    let less : c.loop-done.done < length c.loop-done.order.items = omega (arith, c.loop-done-test.true, c.len.ensures) in
    let small = test_small c.loop-done.invariant less c.index-test.ensures in
    let is = listed c.in_ok-lists.lists.items c.args.pairs.now c.args.count c.index-test.result.now c.index.result.now c.as_slice-in-loop-done.result.now c.in_ok-lists.ensures.long c.in_ok-lists.ensures.lists small c.index.ensures c.as_slice-in-loop-done.ensures.value in
    let e = c.in_ok-release_tests.ensures in
    goes_step c.loop-done.invariant less c.index-test.ensures
    (subst (IsStep c.args.count c.loop-done.counts.items c.loop-done.order.items c.release_tests.new.counts.items c.release_tests.new.order.items) is (record { long = e.long; counts_are = e.counts; kept = e.kept; goes_on = e.goes_on }))

pub loop-done-smaller : goal.loop-done-smaller
loop-done-smaller c = omega (arith, few_taken c.loop-done.invariant, c.loop-done-test.true, c.len.ensures)

pub returns : goal.returns
returns c = all_taken c.loop-done.invariant (omega (arith, c.loop-done-test.false, c.len.ensures))
