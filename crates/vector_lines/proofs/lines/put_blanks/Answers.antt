use Rattle.std.proofs.Common.{◌∙◌}
use Rattle.vector_lines.proofs.Columns.{blanks_more}
use Rattle.vector_lines.proofs.lines.put_blanks.Goals as goal

pub loop-row-preserved : goal.loop-row-preserved
loop-row-preserved c = record {
  long = c.put_blank.ensures.long ∙ c.loop-row.invariant.long;
  blank = blanks_more c.loop-row.text c.loop-row.invariant.blank c.put_blank.ensures.blank c.put_blank.ensures.others;
}
