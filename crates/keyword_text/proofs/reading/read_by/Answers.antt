use Rattle.keyword_text.proofs.Steps.{unread}
use Rattle.keyword_text.proofs.reading.read_by.Goals as goal

pub returns-in-Err : goal.returns-in-Err
returns-in-Err g c = unread g.F.Format.grammar g.F.Format.meaning_of c.args.bytes.now c.in-Err.unread (g.F.Format.unread_of c.fault.result) c.fault.ensures c.in-Err.ensures
