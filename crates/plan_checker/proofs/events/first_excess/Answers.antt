use Rattle.std.proofs.Common.{◌+◌, ◌-◌, get_or, arith}
use Rattle.live_tests.specs.declared.power_events.Event.{Event}
use Rattle.plan_checker.proofs.Summing.{none_summed, one_summed, high_here, all_summed}
use Rattle.plan_checker.proofs.events.first_excess.Goals as goal
use Rattle.plan_checker.proofs.events.first_excess.Goals.{else-whole-via-then-whole+else-begun-ended, else-whole-via-else-whole}

none : Event
none = record { cycle = 0; begins = 0; ends = 0 }

pub loop-at-init : goal.loop-at-init
loop-at-init c = none_summed c.args.events.now c.args.most c.requires.sorted

pub returns-then-begun-ended : goal.returns-then-begun-ended
unfolding none
returns-then-begun-ended c =
    let e = get_or c.args.events.now c.loop-at.at none in
    high_here c.args.events.now c.args.most c.loop-at.at c.loop-at.begun c.loop-at.ended (c.loop-at.begun + e.begins) (c.loop-at.ended + e.ends) none c.requires.sorted (omega arith) c.loop-at.invariant (omega arith) (omega arith) (c.is_last_of_cycle-whole.ensures.last c.if-whole.true) (omega (arith, c.if-begun-ended.true)) (c.loop-at.begun + e.begins - (c.loop-at.ended + e.ends)) (omega (arith, c.if-begun-ended.true))

pub loop-at-preserved : goal.loop-at-preserved
unfolding none
loop-at-preserved c =
    let e = get_or c.args.events.now c.loop-at.at none in
    let small = c.requires.small c.loop-at.at none (omega arith) in
    one_summed c.args.events.now c.args.most c.loop-at.at c.loop-at.begun c.loop-at.ended (c.loop-at.begun + e.begins) (c.loop-at.ended + e.ends) none c.requires.sorted (omega arith) c.loop-at.invariant (omega arith) (omega arith) small.begins small.ends
    (λ last. elim c.else-whole.branch [
      | else-whole-via-then-whole+else-begun-ended w ↦ omega (arith, w.if-begun-ended.false)
      | else-whole-via-else-whole w ↦ absurd (c.is_last_of_cycle-whole.ensures.other w.if-whole.false last)
    ])

pub returns : goal.returns
returns c = all_summed c.args.events.now c.args.most c.loop-at.at c.loop-at.begun c.loop-at.ended (omega arith) c.loop-at.invariant
