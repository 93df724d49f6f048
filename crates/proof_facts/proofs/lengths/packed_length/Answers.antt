use Rattle.std.proofs.Common.{arith}
use Rattle.proof_facts.specs.Packed.{packed}
use Rattle.proof_facts.proofs.lengths.packed_length.Goals as goal

pub returns : goal.returns
unfolding packed
returns c = λ lengths sorted. omega (arith, c.with_averages.ensures lengths sorted, c.max.ensures, c.counted_length-counted.ensures lengths sorted, c.beside_length-beside.ensures lengths sorted)
