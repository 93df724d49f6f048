-- The time of a module's tests over the wires, by width.
use Rattle.std.specs.Prelude.{ℕ, ◌+◌, ◌<◌, ◌≤◌, Bool, true, false, List, length}
use Rattle.std.specs.List.{sum_by, filter}
use Rattle.soc_model.specs.declared.Test.{Test}
use Rattle.soc_model.specs.Chips.{ModuleValue}
use Rattle.soc_model.specs.Modes.{is_of_mode}
use Rattle.plan_model.specs.Cells.{ChainValue, chain_cells}
use Rattle.plan_model.specs.Plans.{operations_of}
use Rattle.plan_model.specs.Bounds.{least_from_one}
use Rattle.wrapper_design.specs.Design.{mode_of, design}

abbrev pub mode_tests : ModuleValue → Bool → List Test
mode_tests m scan = filter (is_of_mode scan) m.tests

-- the lengths of the mode's tests in these chains, together
abbrev pub time_in : ModuleValue → Bool → List ChainValue → ℕ
time_in m scan chains = sum_by (λ (t : Test). length (operations_of m t (chain_cells m scan chains))) (mode_tests m scan)

-- their length in the wrapper that is designed at a width
unfoldable pub mode_time : ModuleValue → Bool → ℕ → ℕ
mode_time m scan width = time_in m scan (design (mode_of m scan) width)

-- the cycles of a test in the wrapper that is designed for its mode at a width
abbrev pub test_time : ModuleValue → Test → ℕ → ℕ
test_time m t width = length (operations_of m t (chain_cells m t.scan (design (mode_of m t.scan) width)))

-- `v` is the least width from 1 to `w` at which `f` is least
pub record IsChosen (f : ℕ → ℕ) (w v : ℕ) : Type 0 where
  pub some : 1 ≤ v
  pub within : v ≤ w
  pub least : (u : ℕ) → 1 ≤ u → u ≤ w → f v ≤ f u
  pub first : (u : ℕ) → 1 ≤ u → u < v → f v < f u

-- the least time of the mode's tests on at most `width` wires
abbrev pub least_time : ModuleValue → Bool → ℕ → ℕ
least_time m scan width = least_from_one (mode_time m scan) width

-- the least times of both modes, together
unfoldable pub time : ModuleValue → ℕ → ℕ
time m width = least_time m true width + least_time m false width
