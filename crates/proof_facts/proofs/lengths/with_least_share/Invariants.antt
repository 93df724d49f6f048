use Rattle.std.proofs.Common.{ℕ, ◌-◌, ◌<◌, ◌≤◌}
use Rattle.plan_model.specs.Bounds.{least_from_one}
use Rattle.proof_facts.specs.Fronts.{even_share}
use Rattle.proof_facts.proofs.lengths.with_least_share.Given as goal

abbrev pub invariant-loop-fewer : goal.invariant-loop-fewer
invariant-loop-fewer l = record {
  all : (q : ℕ) → l.busy - l.fewer < q → q ≤ l.busy → l.least ≤ even_share l.sorted l.width l.k q;
  low : least_from_one (even_share l.sorted l.width l.k) l.busy ≤ l.least;
}
