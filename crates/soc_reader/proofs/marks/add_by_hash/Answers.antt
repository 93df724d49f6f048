use Rattle.std.proofs.Common.{sym, ◌∙◌}
use Rattle.soc_reader.proofs.RowBits.{noted_again}
use Rattle.soc_reader.proofs.marks.add_by_hash.Goals as goal

pub returns-in-Some-clause-ok : goal.returns-in-Some-clause-ok
returns-in-Some-clause-ok c =
    noted_again c.args.marks.now c.insert.new.self c.add_row.new.marks c.args.subject c.args.bit c.in-Some.rows c.in_ok-rows.ensures.updates.0 c.add_row.ensures (sym c.in-Some.is ∙ c.in_ok-rows.ensures.old)
