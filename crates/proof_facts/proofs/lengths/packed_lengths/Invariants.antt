use Rattle.std.proofs.Common.{◌≡◌, map}
use Rattle.std.specs.List.{range_with_len}
use Rattle.proof_facts.specs.Packed.{packed}
use Rattle.proof_facts.proofs.lengths.packed_lengths.Given as goal

abbrev pub invariant-loop-place : goal.invariant-loop-place
invariant-loop-place l = l.row.items ≡ map (packed l.lengths) (range_with_len 1 l.place)
