use Rattle.std.proofs.Common.{◌-◌, inl, inr, arith}
use Rattle.bus_proofs.proofs.WalkSteps.{awaits_none, awaits_open, awaits_second, second_further, second_goes}
use Rattle.bus_proofs.proofs.walk.next_branch.Goals as goal

pub loop-depth-init : goal.loop-depth-init
loop-depth-init c = record { room = c.requires.room; few = omega arith; further = λ root f. f; awaits = λ root left f h. h }

pub begin_second-requires-clause-opened : goal.begin_second-requires-clause-opened
begin_second-requires-clause-opened c =
    let x = awaits_open c.args.basis.now c.requires.awaits.0 c.loop-depth.stack c.loop-depth.depth (c.loop-depth.depth - 1) c.loop-depth.case c.requires.awaits.1 (omega (arith, c.loop-depth-test.true))
    (c.loop-depth.invariant.awaits c.requires.awaits.0 c.requires.awaits.1 c.requires.awaits.2 c.requires.awaits.3) in
    (c.requires.awaits.0, x.before, x.c, x.split, x.opened_is)

pub returns-then-not-stack-depth-clause-further : goal.returns-then-not-stack-depth-clause-further
returns-then-not-stack-depth-clause-further c = λ root left f h.
    second_further c.args.basis.now root c.loop-depth.stack c.loop-depth.depth (c.loop-depth.depth - 1) c.loop-depth.case c.begin_second.new.case left (omega (arith, c.loop-depth-test.true))
    (λ before e split t. c.begin_second.ensures.second root before e split t) (c.loop-depth.invariant.awaits root left f h)

pub returns-then-not-stack-depth-clause-goes_on : goal.returns-then-not-stack-depth-clause-goes_on
returns-then-not-stack-depth-clause-goes_on c = λ root left f h.
    inr (second_goes c.args.basis.now root c.loop-depth.stack c.loop-depth.depth (c.loop-depth.depth - 1) c.loop-depth.case c.begin_second.new.case left
    (omega (arith, c.loop-depth-test.true)) (omega (arith, c.loop-depth-test.true, c.loop-depth.auto.stack, c.loop-depth.invariant.few, c.requires.stack))
    c.if-not-stack-depth.true c.begin_second.ensures.stack
    (λ before e split t. c.begin_second.ensures.second root before e split t) (c.loop-depth.invariant.awaits root left f h))

pub loop-depth-preserved : goal.loop-depth-preserved
loop-depth-preserved c = record {
  room = c.loop-depth.invariant.room;
  few = omega (arith, c.loop-depth.invariant.few);
  further = c.loop-depth.invariant.further;
  awaits = λ root left f h.
      awaits_second c.args.basis.now root c.loop-depth.stack c.loop-depth.depth (c.loop-depth.depth - 1) c.loop-depth.case left (omega (arith, c.loop-depth-test.true))
      c.if-not-stack-depth.false (c.loop-depth.invariant.awaits root left f h);
}

pub returns-clause-room : goal.returns-clause-room
returns-clause-room c = c.loop-depth.invariant.room

pub returns-clause-further : goal.returns-clause-further
returns-clause-further c = λ root left f h. c.loop-depth.invariant.further root f

pub returns-clause-goes_on : goal.returns-clause-goes_on
returns-clause-goes_on c = λ root left f h.
    inl (awaits_none c.args.basis.now root c.loop-depth.stack c.loop-depth.depth c.loop-depth.case left (omega (arith, c.loop-depth-test.false)) (c.loop-depth.invariant.awaits root left f h))
