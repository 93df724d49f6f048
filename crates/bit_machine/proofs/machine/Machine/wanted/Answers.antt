use Rattle.bit_machine.proofs.WireUsers.{carried_by, carried_none}
use Rattle.bit_machine.proofs.machine.Machine.wanted.Goals as goal

pub returns-in-Some : goal.returns-in-Some
returns-in-Some c = λ content tests is.
    let u = c.in-Some.ensures.some.user content tests is in
    carried_by is u.1 (c.wanted.ensures content (u.1).t c.args.self.now.cycle (u.1).tam (u.1).lane (u.1).now)

pub returns-in-None : goal.returns-in-None
returns-in-None c = λ content tests is. carried_none is c.args.wire c.in-None.ensures.none
