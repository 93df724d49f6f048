-- The widths of buses, seen both ways.
use Rattle.std.proofs.Common.{◌≡◌, List, [], ◌∷◌, map, refl, ap}
use Rattle.plan_model.specs.declared.Bus.{Bus}
use Rattle.plan_model.specs.Plans.{BusValue}
use Rattle.plan_model.specs.Views.{bus_value}

pub widths_are : (buses : List Bus) → map (λ (b : Bus). b.width) buses ≡ map (λ (b : BusValue). b.width) (map bus_value buses)
widths_are [] = refl
widths_are (b ∷ buses) = ap (λ widths. b.width ∷ widths) (widths_are buses)
