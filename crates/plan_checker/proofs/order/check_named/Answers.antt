use Rattle.std.proofs.Common.{[], refl, get_or, take, arith}
use Rattle.std.proofs.lemmas.Option.{slice_get-get_or}
use Rattle.soc_model.specs.declared.TestId.{TestId}
use Rattle.plan_model.specs.Plans.{planned}
use Rattle.plan_model.specs.Rules.{InOrder}
use Rattle.plan_checker.specs.Order.{AreInOrder}
use Rattle.plan_model.proofs.FirstBreaches.{each_more, each_all, first_here}
use Rattle.plan_checker.proofs.Ordering.{order_down, order_each}
use Rattle.plan_checker.proofs.order.check_named.Goals as goal

none : TestId × TestId
none = (record { «module» = 0; test = 0 }, record { «module» = 0; test = 0 })

pub returns-then-not-in_order : goal.returns-then-not-in_order
unfolding none
returns-then-not-in_order c = λ soc limits plan placed before.
    let at = slice_get-get_or c.args.before.now c.loop-a.a-index none (omega arith) in
    let each = order_each (planned soc plan) c.args.before.now c.loop-a.a-index (rw placed at c.loop-a.invariant) in
    let not = rw placed at (c.if-not-in_order.ensures.broken refl) in
    ((c.loop-a.a-index, rw (← before) (first_here (InOrder (planned soc plan)) c.args.before.now c.loop-a.a-index (get_or c.args.before.now c.loop-a.a-index none) each at (λ h. not (order_down (planned soc plan) (take c.loop-a.a-index c.args.before.now) [] (get_or c.args.before.now c.loop-a.a-index none) h)))), refl)

pub loop-a-preserved : goal.loop-a-preserved
unfolding none
loop-a-preserved c = each_more (AreInOrder c.args.placed.now) c.args.before.now c.loop-a.a-index (get_or c.args.before.now c.loop-a.a-index none) c.loop-a.invariant (slice_get-get_or c.args.before.now c.loop-a.a-index none (omega arith)) (c.if-not-in_order.ensures.kept refl)

pub returns : goal.returns
returns c = λ soc limits plan placed before. rw (← before) (each_all (InOrder (planned soc plan)) c.args.before.now c.loop-a.a-index (omega arith) (order_each (planned soc plan) c.args.before.now c.loop-a.a-index (rw placed at c.loop-a.invariant)))
