use Rattle.std.proofs.Common.{◌∙◌, arith}
use Rattle.bit_machine.proofs.Standing.{all_now}
use Rattle.bit_machine.proofs.machine.stand_all.Goals as goal

pub loop-wire-preserved : goal.loop-wire-preserved
loop-wire-preserved c = record {
  some = c.stand_wire.ensures.some;
  long = c.stand_wire.ensures.long ∙ c.loop-wire.invariant.long;
  state = c.stand_wire.ensures.state ∙ c.loop-wire.invariant.state;
  lanes = λ content tests are. c.stand_wire.ensures.lanes content tests (c.loop-wire.invariant.lanes content tests are);
  now = c.stand_wire.ensures.now c.loop-wire.invariant.now;
}

pub returns-clause-now : goal.returns-clause-now
returns-clause-now c = all_now c.loop-wire.invariant.some c.loop-wire.wire (omega (arith, c.loop-wire-test.false)) c.loop-wire.invariant.now
