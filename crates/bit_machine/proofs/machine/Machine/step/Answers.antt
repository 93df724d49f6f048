use Rattle.std.proofs.Common.{◌∙◌, ap, refl, length, arith, ℕ, Option}
use Rattle.std.specs.Global.{Vec}
use Rattle.bit_machine.proofs.WireSteps.{wire_more, same_cycle, whole_step}
use Rattle.bit_machine.proofs.machine.Machine.step.Goals as goal

pub loop-wire-preserved : goal.loop-wire-preserved
loop-wire-preserved c = record {
  some = record { content = c.loop-wire.invariant.some.content; tests = c.loop-wire.invariant.some.tests; is = c.step_wire.ensures.machine c.loop-wire.invariant.some.content c.loop-wire.invariant.some.tests c.loop-wire.invariant.some.is };
  cycle = c.step_wire.ensures.cycle ∙ c.loop-wire.invariant.cycle;
  change = c.step_wire.ensures.change ∙ c.loop-wire.invariant.change;
  users = c.step_wire.ensures.users ∙ c.loop-wire.invariant.users;
  machine = λ content tests is. c.step_wire.ensures.machine content tests (c.loop-wire.invariant.machine content tests is);
  bits = λ content tests is.
      let step = c.step_wire.ensures.bits content tests (c.loop-wire.invariant.machine content tests is) in
      let step' = same_cycle c.loop-wire.invariant.cycle step in
      wire_more refl (c.loop-wire.invariant.bits content tests is) step';
}

pub returns-clause-state : goal.returns-clause-state
returns-clause-state c = λ content tests is.
    whole_step (c.loop-wire.invariant.machine content tests is) c.args.self.now (omega (arith, c.loop-wire-test.false, c.requires.driven, ap (λ (v : Vec (Option ℕ)). length v.items) c.loop-wire.invariant.users))
    (c.loop-wire.invariant.bits content tests is)
