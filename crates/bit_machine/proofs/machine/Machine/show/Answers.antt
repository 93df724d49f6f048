use Rattle.std.proofs.Common.{◌≡◌, arith}
use Rattle.plan_model.specs.Runs.{shown}
use Rattle.bit_machine.specs.Machines.{lanes_state}
use Rattle.bit_machine.proofs.Filling.{fill_more}
use Rattle.bit_machine.proofs.machine.Machine.show.Goals as goal

pub loop-wire-preserved : goal.loop-wire-preserved
loop-wire-preserved c = λ content tests is.
    fill_more (λ w b. b ≡ shown tests (lanes_state c.args.self.now.lanes.items) c.args.self.now.cycle w) c.loop-wire.read c.loop-wire.wire c.shown.result (omega (arith, c.loop-wire-test.true, c.loop-wire.auto.read))
    (c.shown.ensures content tests is) (c.loop-wire.invariant content tests is)

pub returns-clause-bits : goal.returns-clause-bits
returns-clause-bits c = λ content tests is w h. c.loop-wire.invariant content tests is w (omega (arith, h, c.loop-wire-test.false, c.loop-wire.auto.read))
