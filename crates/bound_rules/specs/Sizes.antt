-- The lower times of tests, by the sizes of their module.
use Rattle.std.specs.Prelude.{◌≡◌, ℕ, ◌+◌, ◌*◌, ◌^◌, ◌≤◌, Bool, List, length, max, if◌then◌else◌}
use Rattle.std.specs.List.{sum, sum_by}
use Rattle.soc_model.specs.declared.Test.{Test}
use Rattle.soc_model.specs.Chips.{ModuleValue, is_live}
use Rattle.soc_model.specs.Modes.{is_tam}
use Rattle.plan_model.specs.Listing.{module_size}
use Rattle.plan_model.specs.Operations.{ops_of}
use Rattle.plan_model.specs.Plans.{greatest}
use Rattle.plan_model.specs.Bounds.{quotient_up}
use Rattle.bound_rules.specs.declared.sizes.Sizes.{Sizes}

abbrev pub sizes_of : ModuleValue → Sizes
sizes_of m = record {
  setup = m.setup;
  inputs = m.inputs + m.bidirs;
  outputs = m.outputs + m.bidirs;
  longest = greatest m.chains;
  flops = sum m.chains;
}

-- the least length of the longest of `w` chains, with `ends` cells at their ends
abbrev pub least_chain : Sizes → Bool → (ends w : ℕ) → ℕ
least_chain s scan ends w = if scan then max s.longest (quotient_up (ends + s.flops) w) else quotient_up ends w

-- the lower time by the sizes of the module
unfoldable pub time_by : Sizes → ℕ → Test → ℕ
time_by s w t =
    if t.tam then length (ops_of s.setup (least_chain s t.scan s.inputs w) (least_chain s t.scan s.outputs w) t.patterns) else t.patterns

-- a test's part of the work of a chip
unfoldable pub work_by : Sizes → Test → ℕ
work_by s t = t.patterns * (1 + s.inputs + s.outputs + 2 * s.flops) + (if t.tam then s.setup else 0)

-- the cells of the sizes of a module fit in a machine's number
pub record IsFitting (s : Sizes) : Type 0 where
  pub cells : 1 + s.inputs + s.outputs + 2 * s.flops ≤ 10 ^ 18
  pub longest : s.longest ≤ s.flops

-- the lower times of the live tests of a list together, and their work
abbrev pub times_by : Sizes → ℕ → List Test → ℕ
times_by s w ts = sum_by (λ t. if is_live t then time_by s w t else 0) ts

-- the lower times of the tests of a list that go over the wires, together
abbrev pub tam_times_by : Sizes → ℕ → List Test → ℕ
tam_times_by s w ts = sum_by (λ t. if is_tam t then time_by s w t else 0) ts

abbrev pub works_by : Sizes → List Test → ℕ
works_by s ts = sum_by (λ t. if is_live t then work_by s t else 0) ts

-- a module whose cells and the work of whose live tests fit in a machine's number, as those of a sound chip do
pub record IsMeasurable (m : ModuleValue) : Type 0 where
  pub small : module_size m ≤ 10 ^ 18
  pub work : works_by (sizes_of m) m.tests ≤ 10 ^ 18

-- the sizes of such a module
pub record IsMeasured (m : ModuleValue) (s : Sizes) : Type 0 where
  pub sizes : s ≡ sizes_of m
  pub fitting : IsFitting s
  pub work : works_by s m.tests ≤ 10 ^ 18
