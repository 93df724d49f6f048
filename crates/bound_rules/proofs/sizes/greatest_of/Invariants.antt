use Rattle.std.proofs.Common.{◌≡◌, drop, max}
use Rattle.plan_model.specs.Plans.{greatest}
use Rattle.bound_rules.proofs.sizes.greatest_of.Given as goal

abbrev pub invariant-loop-length : goal.invariant-loop-length
invariant-loop-length l = max l.longest (greatest (drop l.length-index l.lengths)) ≡ greatest l.lengths
