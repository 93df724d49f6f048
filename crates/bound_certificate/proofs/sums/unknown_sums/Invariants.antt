use Rattle.std.proofs.Common.{◌≡◌, replicate}
use Rattle.bound_certificate.specs.declared.sums.Sum.TheVariants.{Unknown}
use Rattle.bound_certificate.proofs.sums.unknown_sums.Given as goal

abbrev pub invariant-loop : goal.invariant-loop
invariant-loop l = l.sums.items ≡ replicate l.counter Unknown
