use Rattle.std.proofs.lemmas.Result.{on_ok_weaker}
use Rattle.soc_reader.proofs.RowBits.{rows-opened}
use Rattle.soc_reader.proofs.marks.open_rows.Goals as goal

pub returns-clause-ok : goal.returns-clause-ok
returns-clause-ok c = on_ok_weaker c.add_by_hash.result (λ added. rows-opened c.args.marks.now c.add_by_hash.new.marks c.args.subject added) c.add_by_hash.ensures.ok
