use Rattle.std.proofs.Common.{◌≡◌, ℕ, drop, length, map, nat_eq}
use Rattle.std.specs.Prelude.{unwrap_or}
use Rattle.std.specs.Map.{lookup}
use Rattle.plan_model.specs.Plans.{bus_place}
use Rattle.plan_model.specs.Views.{bus_value}
use Rattle.live_tests.proofs.index.buses_by_module.Given as goal

abbrev pub invariant-loop-place : goal.invariant-loop-place
invariant-loop-place l = (m : ℕ) → unwrap_or (lookup (nat_eq m) l.named.entries) (length l.buses) ≡ bus_place m l.place (drop l.place (map bus_value l.buses))
