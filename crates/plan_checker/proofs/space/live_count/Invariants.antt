use Rattle.std.proofs.Common.{◌≡◌, length, take, filter, sum_by}
use Rattle.soc_model.specs.Chips.{ModuleValue, soc_value, is_live}
use Rattle.plan_checker.proofs.space.live_count.Given as goal

abbrev pub invariant-loop-place : goal.invariant-loop-place
invariant-loop-place l = l.count ≡ sum_by (λ (m : ModuleValue). length (filter is_live m.tests)) (take l.place (soc_value l.soc).modules)
