use Rattle.std.proofs.Common.{ℕ, None, List, get_or, refl, arith}
use Rattle.std.proofs.lemmas.Option.{slice_get-get_or}
use Rattle.live_tests.specs.declared.placed.PlacedTest.{PlacedTest}
use Rattle.plan_model.proofs.FirstBreaches.{each_more}
use Rattle.plan_checker.specs.Order.{IsInOrderAt}
use Rattle.plan_checker.proofs.Paired.{broken_by_place, kept_by_place}
use Rattle.plan_checker.proofs.order.check_pairs.Goals as goal

none : ℕ × ℕ
none = (0, 0)

no_test : PlacedTest
no_test = record { id = record { «module» = 0; test = 0 }; place = 0; bus = None; start = 0; end = 0; power = 0 }

pub returns-then-not-in_order_at : goal.returns-then-not-in_order_at
unfolding none no_test
returns-then-not-in_order_at c = λ soc limits plan placed pairs.
    let e : ℕ × ℕ = get_or c.args.pairs.now c.loop-first.first-index none in
    let within = c.requires.within c.loop-first.first-index none (omega arith) in
    let at = slice_get-get_or c.args.pairs.now c.loop-first.first-index none (omega arith) in
    let here = slice_get-get_or c.args.placed.now e.0 no_test within.0 in
    let there = slice_get-get_or c.args.placed.now e.1 no_test within.1 in
    (broken_by_place soc plan c.args.placed.now limits.before c.args.pairs.now c.loop-first.first-index e (get_or c.args.placed.now e.0 no_test) (get_or c.args.placed.now e.1 no_test) c.requires.apart placed pairs at here there c.loop-first.invariant (c.if-not-in_order_at.ensures.broken refl), refl)

pub loop-first-preserved : goal.loop-first-preserved
unfolding none
loop-first-preserved c =
    each_more (λ (earlier : List (ℕ × ℕ)) (e : ℕ × ℕ). IsInOrderAt c.args.placed.now e) c.args.pairs.now c.loop-first.first-index (get_or c.args.pairs.now c.loop-first.first-index none)
    c.loop-first.invariant (slice_get-get_or c.args.pairs.now c.loop-first.first-index none (omega arith)) (c.if-not-in_order_at.ensures.kept refl)

pub returns : goal.returns
returns c = λ soc limits plan placed pairs. kept_by_place soc plan c.args.placed.now limits.before c.args.pairs.now c.loop-first.first-index c.requires.apart placed pairs (omega arith) c.loop-first.invariant
