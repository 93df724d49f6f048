use Rattle.bit_machine.proofs.Counting.{capture_here, capture_apart, capture_nowhere}
use Rattle.bit_machine.proofs.machine.Machine.capture_of.Goals as goal

pub returns-then-stepped-wire : goal.returns-then-stepped-wire
returns-then-stepped-wire c = λ content tests is.
    let u = c.in-Some.ensures.some.user content tests is in
    capture_here u.1 is c.if-stepped-wire.true (c.capture_of.ensures content (u.1).t c.args.self.now.cycle (u.1).tam (u.1).lane (u.1).now)

pub returns-else-stepped-wire : goal.returns-else-stepped-wire
returns-else-stepped-wire c = λ content tests is.
    let u = c.in-Some.ensures.some.user content tests is in
    capture_apart u.1 is c.if-stepped-wire.false

pub returns-in-None : goal.returns-in-None
returns-in-None c = λ content tests is. capture_nowhere is c.args.wire c.in-None.ensures.none
