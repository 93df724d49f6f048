-- The width of the bus at the place that a module finds.
use Rattle.std.proofs.Common.{◌≡◌, ℕ, zero, suc, ◌+◌, ◌<◌, ◌≤◌, inl, inr, List, [], ◌∷◌, length, get_or, map, refl, ap, arith}
use Rattle.std.proofs.lemmas.Bool.{cases_Bool}
use Rattle.plan_model.specs.declared.Bus.{Bus}
use Rattle.plan_model.specs.Plans.{BusValue, bus_place, has_module}
use Rattle.plan_model.specs.Views.{bus_value}
use Rattle.planner.specs.Wrapping.{bus_width}

place_from : (number start : ℕ) (buses : List BusValue) → start ≤ bus_place number start buses
place_from number start [] = omega arith
place_from number start (b ∷ buses) = elim (cases_Bool (has_module number b)) [
  | inl yes' ↦ rw yes' (omega arith)
  | inr no' ↦ rw no' (omega (arith, place_from number (start + 1) buses))
]

pub width_found : (number : ℕ) (buses : List Bus) (start k : ℕ) (bus : Bus) → start + k ≡ bus_place number start (map bus_value buses) → k < length buses → bus ≡ get_or buses k bus → bus.width ≡ bus_width (map bus_value buses) number
width_found number [] start k bus is less at = absurd (omega (arith, less))
width_found number (b ∷ buses) start zero bus is less at = elim (cases_Bool (has_module number (bus_value b))) [
  | inl yes' ↦ rw yes' (ap (λ (v : Bus). v.width) at)
  | inr no' ↦ let past : start + 0 ≡ bus_place number (start + 1) (map bus_value buses) = rw no' at is in absurd (omega (arith, past, place_from number (start + 1) (map bus_value buses)))
]
width_found number (b ∷ buses) start (suc k) bus is less at = elim (cases_Bool (has_module number (bus_value b))) [
  | inl yes' ↦ let here : start + suc k ≡ start = rw yes' at is in absurd (omega (arith, here))
  | inr no' ↦ let past : start + suc k ≡ bus_place number (start + 1) (map bus_value buses) = rw no' at is in rw no' (width_found number buses (start + 1) k bus (omega (arith, past)) (omega (arith, less)) at)
]

pub width_missing : (number : ℕ) (buses : List Bus) (start k : ℕ) → start + k ≡ bus_place number start (map bus_value buses) → length buses ≤ k → 0 ≡ bus_width (map bus_value buses) number
width_missing number [] start k is past = refl
width_missing number (b ∷ buses) start zero is past = absurd (omega (arith, past))
width_missing number (b ∷ buses) start (suc k) is past = elim (cases_Bool (has_module number (bus_value b))) [
  | inl yes' ↦ let here : start + suc k ≡ start = rw yes' at is in absurd (omega (arith, here))
  | inr no' ↦ let next : start + suc k ≡ bus_place number (start + 1) (map bus_value buses) = rw no' at is in rw no' (width_missing number buses (start + 1) k (omega (arith, next)) (omega (arith, past)))
]
