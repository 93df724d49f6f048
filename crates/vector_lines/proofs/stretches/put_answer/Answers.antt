use Rattle.std.proofs.Common.{◌≡◌, ◌+◌, ◌-◌, ◌*◌, None, Some, length, sym, ◌∙◌, arith, refl}
use Rattle.vector_lines.proofs.Columns.{rows_fit}
use Rattle.vector_lines.proofs.ShiftStretches.{answer_put, no_answer, fewer_rows, same_turn}
use Rattle.vector_lines.proofs.stretches.put_answer.Goals as goal

pub put_back-requires-clause-rows : goal.put_back-requires-clause-rows
put_back-requires-clause-rows g c =
    rows_fit (2 * c.args.at.wires + 2) (c.args.at.row + c.min-count.result) (c.args.at.row + c.args.stretch.count) (length c.args.text.now) (omega (arith, c.min-count.ensures)) c.requires.rows

pub returns-then-shifts-answers-clause-read : goal.returns-then-shifts-answers-clause-read
returns-then-shifts-answers-clause-read g c =
    no_answer c.args.at.wires c.args.at.row c.args.stretch.count c.args.text.now (g.C.Contents.mark c.args.contents.now c.args.key) c.args.at.column c.args.path.now c.args.stretch.behind
    (λ t is. let same = same_turn is c.in-Some.is in omega (arith, same, c.if-shifts-answers.true, c.len-answers.ensures))

pub returns-else-shifts-answers-clause-read : goal.returns-else-shifts-answers-clause-read
returns-else-shifts-answers-clause-read g c =
    answer_put (g.C.Bits.PatternBits.byte_of c.response-bits.result) c.args.at.row c.args.stretch.count c.args.path.now _ c.requires.column (g.C.Contents.mark c.args.contents.now c.args.key)
    (c.len-answers.result - c.in-Some.near.shifts) c.in-Some.is (omega (arith, c.if-shifts-answers.false, c.len-answers.ensures))
    (omega (arith, c.if-shifts-answers.false, c.len-answers.ensures)) refl c.min-count.ensures c.response-bits.ensures.bits c.put_back.ensures

pub returns-else-shifts-answers-clause-others : goal.returns-else-shifts-answers-clause-others
returns-else-shifts-answers-clause-others g c =
    fewer_rows c.args.at.wires c.args.at.row c.args.stretch.count c.args.text.now c.min-count.result c.args.at.column c.put_back.new.text (omega (arith, c.min-count.ensures)) c.put_back.ensures.others

pub returns-in-None-clause-read : goal.returns-in-None-clause-read
returns-in-None-clause-read g c =
    no_answer c.args.at.wires c.args.at.row c.args.stretch.count c.args.text.now (g.C.Contents.mark c.args.contents.now c.args.key) c.args.at.column c.args.path.now c.args.stretch.behind
    (λ t is. let wrong : None ≡ Some t = sym c.in-None.is ∙ is in absurd cc)
