use Rattle.bound_rules.proofs.Energies.{Added}
use Rattle.leaf_bounds.specs.Lists.{counted}
use Rattle.leaf_bounds.proofs.leaf_costs.counted_steps.Given as goal

abbrev pub invariant-loop-from : goal.invariant-loop-from
invariant-loop-from l = Added (counted l.limit l.near) l.limit l.steps l.cycles l.from-index l.begun l.power l.sum
