use Rattle.std.proofs.Common.{rules, ◌≡◌, ◌+◌, ◌-◌, get_or, sym, subst, arith}
use Rattle.live_tests.specs.declared.power_events.Event.{Event}
use Rattle.live_tests.proofs.Sweeping.{IsSwept, none_swept, same_swept, last_swept, all_swept, swept_sums}
use Rattle.live_tests.proofs.power_events.swept.Goals as goal

none : Event
none = record { cycle = 0; begins = 0; ends = 0 }

pub loop-at-init : goal.loop-at-init
loop-at-init c = subst (λ l. IsSwept c.args.events.now 0 l 0 0 0) (sym c.new-steps.ensures.items) (none_swept c.args.events.now c.requires.sorted)

pub loop-at-preserved-then-not-is_last_of_cycle : goal.loop-at-preserved-then-not-is_last_of_cycle
unfolding none
loop-at-preserved-then-not-is_last_of_cycle c =
    same_swept c.args.events.now c.loop-at.at c.loop-at.steps.items c.loop-at.begun c.loop-at.ended c.loop-at.load (c.loop-at.begun + c.begins_of-begun.result) (c.loop-at.ended + c.ends_of-ended.result) none c.loop-at-test.true c.loop-at.invariant (c.is_last_of_cycle.ensures.other (search rules)) (omega (arith, c.begins_of-begun.ensures.is)) (omega (arith, c.ends_of-ended.ensures.is)) (omega (arith, c.begins_of-begun.ensures.is)) (omega (arith, c.ends_of-ended.ensures.is))

pub overflow_sub-now : goal.overflow_sub-now
unfolding none
overflow_sub-now c =
    let sums = swept_sums c.args.events.now c.loop-at.at c.loop-at.steps.items c.loop-at.begun c.loop-at.ended c.loop-at.load none c.requires.sorted c.loop-at-test.true c.loop-at.invariant (c.is_last_of_cycle.ensures.last (search rules)) in
    omega (arith, sums.0, sums.1, c.requires.ended (get_or c.args.events.now c.loop-at.at none).cycle, c.begins_of-begun.ensures.is, c.ends_of-ended.ensures.is)

pub overflow_cast-now : goal.overflow_cast-now
unfolding none
overflow_cast-now c =
    let sums = swept_sums c.args.events.now c.loop-at.at c.loop-at.steps.items c.loop-at.begun c.loop-at.ended c.loop-at.load none c.requires.sorted c.loop-at-test.true c.loop-at.invariant (c.is_last_of_cycle.ensures.last (search rules)) in
    omega (arith, sums.0, sums.1, c.requires.ended (get_or c.args.events.now c.loop-at.at none).cycle, c.requires.fits (get_or c.args.events.now c.loop-at.at none).cycle, c.begins_of-begun.ensures.is, c.ends_of-ended.ensures.is)

pub loop-at-preserved : goal.loop-at-preserved
unfolding none
loop-at-preserved c =
    let begun = c.loop-at.begun + c.begins_of-begun.result in
    let ended = c.loop-at.ended + c.ends_of-ended.result in
    let last = c.is_last_of_cycle.ensures.last (search rules) in
    let sums = swept_sums c.args.events.now c.loop-at.at c.loop-at.steps.items c.loop-at.begun c.loop-at.ended c.loop-at.load none c.requires.sorted c.loop-at-test.true c.loop-at.invariant last in
    let now_is : begun - ended + ended ≡ begun = omega (arith, sums.0, sums.1, c.requires.ended (get_or c.args.events.now c.loop-at.at none).cycle, c.begins_of-begun.ensures.is, c.ends_of-ended.ensures.is) in
    last_swept c.args.events.now c.loop-at.at c.loop-at.steps.items c.push_change.new.steps.items c.loop-at.begun c.loop-at.ended c.loop-at.load begun ended (begun - ended) none c.requires.sorted c.loop-at-test.true c.loop-at.invariant last (omega (arith, c.begins_of-begun.ensures.is)) (omega (arith, c.ends_of-ended.ensures.is)) (omega (arith, c.begins_of-begun.ensures.is)) (omega (arith, c.ends_of-ended.ensures.is)) now_is c.in_ok-push_change.ensures

pub returns : goal.returns
returns c = λ f last is ends. all_swept c.args.events.now c.loop-at.at c.loop-at.steps.items c.loop-at.begun c.loop-at.ended c.loop-at.load (omega (arith, c.loop-at-test.false)) c.loop-at.invariant f last is ends
