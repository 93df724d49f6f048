use Rattle.std.proofs.Common.{◌^◌}
use Rattle.bound_rules.proofs.Energies.{Added}
use Rattle.bound_rules.proofs.energy.steps_energy.Given as goal

abbrev pub invariant-loop-from : goal.invariant-loop-from
invariant-loop-from l = Added (λ p. p) (2 ^ 64) l.steps l.length l.from-index l.begun l.power l.sum
