use Rattle.std.proofs.Common.{◌≡◌, ℕ, map, take}
use Rattle.plan_model.specs.Plans.{greatest}
use Rattle.split_plan.proofs.cuts.greatest_power.Given as goal

abbrev pub invariant-loop-power : goal.invariant-loop-power
invariant-loop-power l = l.greatest ≡ greatest (map (λ (s : ℕ × ℕ). s.1) (take l.power-index l.steps))
