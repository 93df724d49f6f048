-- What tests draw over their lower times, by the sizes of their module.
use Rattle.std.specs.Prelude.{ℕ, List, if◌then◌else◌}
use Rattle.std.specs.List.{sum_by}
use Rattle.soc_model.specs.declared.Test.{Test}
use Rattle.soc_model.specs.declared.TestId.{TestId}
use Rattle.soc_model.specs.Chips.{same_test, is_live}
use Rattle.plan_model.specs.Plans.{ProfileValue, of_first, step_power}
use Rattle.plan_model.specs.Bounds.{sum_below}
use Rattle.bound_rules.specs.declared.sizes.Sizes.{Sizes}
use Rattle.bound_rules.specs.Sizes.{time_by}

-- what a test draws `r` cycles after its start, by the first profile of its name or else its own power
abbrev pub powers_of : TestId → ℕ → List ProfileValue → ℕ → ℕ
powers_of id own profiles r = of_first (λ (p : ProfileValue). same_test p.test id) (λ p. step_power r 0 p.steps) own profiles

-- what a test draws over its lower time
abbrev pub energy_of : Sizes → (number : ℕ) → List ProfileValue → ℕ → Test → ℕ
energy_of s number profiles w t = sum_below (powers_of (record { «module» = number; test = t.number }) t.power profiles) (time_by s w t)

-- what the live tests of a module draw
abbrev pub energies : Sizes → (number : ℕ) → List ProfileValue → ℕ → List Test → ℕ
energies s number profiles w ts = sum_by (λ t. if is_live t then energy_of s number profiles w t else 0) ts
