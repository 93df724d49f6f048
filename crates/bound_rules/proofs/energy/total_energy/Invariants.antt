use Rattle.std.proofs.Common.{◌≡◌, ◌+◌, drop}
use Rattle.std.specs.List.{sum_by}
use Rattle.soc_model.specs.Chips.{live_from}
use Rattle.plan_model.specs.Bounds.{least_energy}
use Rattle.soc_model.specs.Chips.{soc_value}
use Rattle.plan_model.specs.Views.{limits_value}
use Rattle.bound_rules.proofs.Energies.{energy_at_least}
use Rattle.bound_rules.proofs.energy.total_energy.Given as goal

abbrev pub invariant-loop-place : goal.invariant-loop-place
invariant-loop-place l =
    l.sum + sum_by (energy_at_least (limits_value l.limits)) (live_from l.place (drop l.place (soc_value l.soc).modules)) ≡ least_energy (soc_value l.soc) (limits_value l.limits)
