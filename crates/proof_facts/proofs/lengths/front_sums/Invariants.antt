use Rattle.std.proofs.Common.{◌≡◌, take}
use Rattle.std.specs.List.{sum}
use Rattle.proof_facts.specs.Fronts.{AreFronts}
use Rattle.proof_facts.proofs.lengths.front_sums.Given as goal

abbrev pub invariant-loop-length : goal.invariant-loop-length
invariant-loop-length l = record {
  fronts : AreFronts (take l.length-index l.lengths) l.fronts.items;
  sum : l.sum ≡ sum (take l.length-index l.lengths);
}
