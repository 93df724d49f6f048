use Rattle.std.proofs.Common.{◌<◌, Some, length, arith}
use Rattle.std.proofs.lemmas.Option.{slice_get_within}
use Rattle.bit_machine.proofs.Assigning.{clear_more}
use Rattle.bit_machine.proofs.machine.clear_users.Goals as goal

pub loop-wire-preserved : goal.loop-wire-preserved
loop-wire-preserved c = clear_more c.loop-wire.users c.loop-wire.wire (omega (arith, c.loop-wire-test.true, c.loop-wire.auto.users)) c.loop-wire.invariant

pub returns-clause-none : goal.returns-clause-none
returns-clause-none c = λ w i at.
    let within : w < length c.loop-wire.users = slice_get_within c.loop-wire.users w (Some i) at in
    c.loop-wire.invariant w i (omega (arith, c.loop-wire-test.false, c.loop-wire.auto.users)) at
