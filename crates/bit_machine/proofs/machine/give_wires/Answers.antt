use Rattle.std.proofs.Common.{arith}
use Rattle.bit_machine.proofs.Assigning.{given_none, given_more}
use Rattle.bit_machine.proofs.machine.give_wires.Goals as goal

pub loop-wire-init : goal.loop-wire-init
loop-wire-init c = given_none c.args.users.now c.args.place c.args.lane.now.first_wire

pub loop-wire-preserved : goal.loop-wire-preserved
loop-wire-preserved c = given_more (omega (arith, c.loop-wire.auto.wire)) (omega (arith, c.loop-wire-test.true, c.loop-wire.auto.users, c.requires)) c.loop-wire.invariant
