use Rattle.bit_machine.proofs.WireUsers.{shown_by, shown_none}
use Rattle.bit_machine.proofs.machine.Machine.shown.Goals as goal

pub returns-in-Some : goal.returns-in-Some
returns-in-Some c = λ content tests is.
    let u = c.in-Some.ensures.some.user content tests is in
    shown_by is c.args.wire u.1 c.shown.ensures

pub returns-in-None : goal.returns-in-None
returns-in-None c = λ content tests is. shown_none is c.args.wire c.in-None.ensures.none
