use Rattle.std.proofs.Common.{◌≡◌, ℕ, ◌*◌, ◌<◌, ◌≤◌, List, length}
use Rattle.proof_facts.specs.Packed.{rising, counting}
use Rattle.proof_facts.specs.Fronts.{window}
use Rattle.proof_facts.proofs.lengths.counted_length.Given as goal

abbrev pub invariant-loop-k : goal.invariant-loop-k
invariant-loop-k l = record {
  all : (j : ℕ) → j < l.k → j * l.width < length l.sorted → window l.sorted l.width j ≤ l.most;
  most : (lengths : List ℕ) → l.sorted ≡ rising lengths → l.most ≤ counting lengths l.width;
}
