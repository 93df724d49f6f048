use Rattle.soc_reader.proofs.RowBits.{row_written}
use Rattle.soc_reader.proofs.marks.add_to_last.Goals as goal

pub returns-clause-row : goal.returns-clause-row
returns-clause-row c =
    λ is_last. row_written c.args.marks.now c.saturating_sub-place.result c.in-Some-get_index_mut.rows.now c.in-Some.field-0-1.now c.args.bit c.in-Some.last.now c.args.subject c.eq.result
    c.len.ensures.unique c.in-Some.ensures.entry c.in-Some.ensures.value c.in-Some-get_index_mut.ensures.value c.eq.ensures c.if-eq.true
