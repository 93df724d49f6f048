use Rattle.bit_machine.proofs.WireUsers.{answer_read, answer_compared}
use Rattle.bit_machine.proofs.machine.Machine.is_compared.Goals as goal

pub returns-in-Some : goal.returns-in-Some
returns-in-Some c = λ content tests is.
    let u = c.in-Some.ensures.some.user content tests is in
    record {
      read = λ r. answer_read is c.args.wire u.1 c.is_read.result c.is_read.ensures r;
      only = λ e. answer_compared u.1 c.in-Some.ensures.some.low c.is_read.ensures e;
    }

pub returns-in-None : goal.returns-in-None
returns-in-None c = λ content tests is. record {
  read = λ r. absurd (c.in-None.ensures.none content tests is r.place r.test r.at (is.wires.reads r.place r.pattern c.args.self.now.cycle c.args.wire r.test r.cell r.at r.read));
  only = λ e. absurd cc;
}
