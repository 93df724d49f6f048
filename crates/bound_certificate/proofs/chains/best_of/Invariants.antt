use Rattle.std.proofs.Common.{◌<◌, length, take, IfSome, Contains}
use Rattle.bound_certificate.specs.Chains.{IsBest}
use Rattle.bound_certificate.proofs.chains.best_of.Given as goal

abbrev pub invariant-loop-place : goal.invariant-loop-place
invariant-loop-place l = record {
  best : IsBest l.sums (Contains (take l.place-index l.places)) l.best;
  within : IfSome l.best (λ b. b < length l.sums);
}
