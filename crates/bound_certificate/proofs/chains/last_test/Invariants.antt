use Rattle.std.proofs.Common.{◌<◌, length, IfSome}
use Rattle.bound_certificate.specs.Nodes.{node_values}
use Rattle.bound_certificate.specs.Chains.{IsBest, HasEarlierBelow}
use Rattle.bound_certificate.proofs.chains.last_test.Given as goal

abbrev pub invariant-loop-place : goal.invariant-loop-place
invariant-loop-place l = record {
  best : IsBest l.sums (HasEarlierBelow (node_values l.nodes) l.place) l.best;
  within : IfSome l.best (λ b. b < length l.sums);
}
