use Rattle.std.proofs.Common.{ap, sym, length, arith}
use Rattle.proof_facts.proofs.Rising.{length-rising}
use Rattle.proof_facts.proofs.Beside.{none_beside, one_wire, beside_found}
use Rattle.proof_facts.proofs.lengths.beside_length.Goals as goal

pub returns-then-count-lt2 : goal.returns-then-count-lt2
returns-then-count-lt2 c = λ lengths sorted. sym (none_beside lengths c.args.width (omega (arith, c.if-count-lt2.true, ap length sorted, length-rising lengths)))

pub returns-then-width-lt2 : goal.returns-then-width-lt2
returns-then-width-lt2 c = λ lengths sorted. sym (one_wire lengths c.args.width c.if-width-lt2.true)

pub returns : goal.returns
returns c = λ lengths sorted. beside_found lengths c.args.sorted.now c.args.width c.counted_length-others.result c.max.result c.min.result sorted (omega (arith, c.if-count-lt2.false)) (omega (arith, c.if-width-lt2.false)) c.counted_length-others.ensures c.max.ensures c.min.ensures
