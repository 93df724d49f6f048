use Rattle.keyword_text.specs.Tokens.{table_value}
use Rattle.keyword_text.proofs.Steps.{goes_on, unknown, stops}
use Rattle.keyword_text.proofs.reading.ReadingReader.step.Goals as goal

pub returns-in_default : goal.returns-in_default
returns-in_default g c = λ front few at.
    unknown g.F.Format.grammar g.F.Format.machine at.reads (table_value c.keywords.result.now) c.most.result (record { table_is = c.keywords.ensures; most_is = c.most.ensures })
    (g.F.Format.state_of c.args.self.read) front (c.args.word.bytes.now, c.args.word.line) at.after c.in_default.ensures

pub returns-in-Ok : goal.returns-in-Ok
returns-in-Ok g c = λ front few at. record {
  after = goes_on g.F.Format.grammar g.F.Format.machine (table_value c.keywords.result.now) c.most.result (record { table_is = c.keywords.ensures; most_is = c.most.ensures })
      (g.F.Format.state_of c.args.self.read) (g.F.Format.state_of c.in-Ok.read) front (c.args.word.bytes.now, c.args.word.line) c.in-Some.token at.after c.in-Some.ensures c.in-Ok.ensures;
  reads = at.reads;
}

pub returns-in-Err-Refused : goal.returns-in-Err-Refused
returns-in-Err-Refused g c = λ front few at.
    stops g.F.Format.grammar g.F.Format.machine at.reads (table_value c.keywords.result.now) c.most.result (record { table_is = c.keywords.ensures; most_is = c.most.ensures })
    (g.F.Format.state_of c.args.self.read) front (c.args.word.bytes.now, c.args.word.line) c.in-Some.token at.after c.in-Some.ensures (rw c.in-Err-Refused.field-0-is at c.in-Err-Refused.ensures)
