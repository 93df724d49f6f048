use Rattle.std.proofs.Common.{arith}
use Rattle.bit_machine.specs.Machines.{IsMark}
use Rattle.bit_machine.proofs.Filling.{fill_more}
use Rattle.bit_machine.proofs.machine.Machine.compare.Goals as goal

pub loop-wire-preserved : goal.loop-wire-preserved
loop-wire-preserved c = λ content tests is.
    fill_more (IsMark tests c.args.self.now.cycle) c.loop-wire.care c.loop-wire.wire c.is_compared.result (omega (arith, c.loop-wire-test.true, c.loop-wire.auto.care)) (c.is_compared.ensures content tests is) (c.loop-wire.invariant content tests is)

pub returns-clause-bits : goal.returns-clause-bits
returns-clause-bits c = λ content tests is w h. c.loop-wire.invariant content tests is w (omega (arith, h, c.loop-wire-test.false, c.loop-wire.auto.care))
