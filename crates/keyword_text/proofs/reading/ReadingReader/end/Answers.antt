use Rattle.keyword_text.proofs.Steps.{finishes}
use Rattle.keyword_text.proofs.reading.ReadingReader.end.Goals as goal

pub returns : goal.returns
returns g c = λ words few at.
    finishes g.F.Format.grammar g.F.Format.machine at.reads g.F.Format.meaning_of (g.F.Format.state_of c.args.self.read) words c.end.result at.after c.end.ensures
