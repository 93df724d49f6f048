use Rattle.std.proofs.Common.{◌≡◌, ℕ, ◌*◌, ◌<◌, ◌≤◌, max, List, length}
use Rattle.proof_facts.specs.Packed.{rising, least_share, averaging}
use Rattle.proof_facts.proofs.lengths.with_averages.Given as goal

abbrev pub invariant-loop-k : goal.invariant-loop-k
invariant-loop-k l = record {
  all : (lengths : List ℕ) → l.sorted ≡ rising lengths → (j : ℕ) → j < l.k → j * l.width < length l.sorted → least_share lengths l.width j ≤ l.greatest;
  low : l.most ≤ l.greatest;
  within : (lengths : List ℕ) → l.sorted ≡ rising lengths → l.greatest ≤ max l.most (averaging lengths l.width);
}
