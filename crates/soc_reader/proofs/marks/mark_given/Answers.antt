use Rattle.std.proofs.Common.{is_some, refl}
use Rattle.std.proofs.lemmas.Result.{on_ok_weaker}
use Rattle.soc_reader.specs.Marks.{bits_of}
use Rattle.soc_reader.proofs.RowBits.{marked_more, marked_any, marked_left}
use Rattle.soc_reader.proofs.marks.mark_given.Goals as goal

pub returns-then-add_to_last-clause-ok : goal.returns-then-add_to_last-clause-ok
returns-then-add_to_last-clause-ok c =
    marked_more c.args.marks.now c.add_to_last.new.marks c.args.given c.row_bit-bit.result (is_some (bits_of c.args.marks.now c.args.given.subject)) c.row_bit-bit.ensures refl (c.add_to_last.ensures.last c.if-add_to_last.true) (c.add_to_last.ensures.row c.if-add_to_last.true)

pub returns-clause-ok : goal.returns-clause-ok
returns-clause-ok c =
    on_ok_weaker c.add_by_hash.result
    (λ added. marked_left c.args.marks.now c.add_to_last.new.marks c.add_by_hash.new.marks c.args.given (c.add_to_last.ensures.other c.if-add_to_last.false)
    (marked_any c.add_to_last.new.marks c.add_by_hash.new.marks c.args.given c.row_bit-bit.result c.row_bit-bit.ensures added))
    c.add_by_hash.ensures.ok
