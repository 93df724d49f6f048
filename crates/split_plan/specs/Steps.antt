-- What is known where the parts are counted and made.
use Rattle.std.specs.Prelude.{ℕ, ◌+◌, ◌*◌, ◌^◌, ◌<◌, ◌≤◌, List, map, sum, if◌then◌else◌}
use Rattle.std.specs.List.{filter, sum_by}
use Rattle.soc_model.specs.declared.Test.{Test}
use Rattle.soc_model.specs.declared.TestId.{TestId}
use Rattle.soc_model.specs.Chips.{ModuleValue, SocValue, is_live}
use Rattle.plan_model.specs.Plans.{ProfileValue}
use Rattle.split_plan.specs.declared.cuts.Cut.{Cut}
use Rattle.split_plan.specs.Cuts.{part_count}

-- ---- numbers of the chip of parts

-- how many parts the tests of a module and of the chip have
abbrev pub count_in : (most : ℕ) → ModuleValue → ℕ
count_in most m = sum_by (part_count most) m.tests

abbrev pub count_all : (most : ℕ) → SocValue → ℕ
count_all most soc = sum_by (count_in most) soc.modules

-- the work of a test's parts together: the setup counts once a part
abbrev pub parts_work : (most : ℕ) → ModuleValue → Test → ℕ
parts_work most m t = t.patterns * (1 + (m.inputs + m.bidirs) + (m.outputs + m.bidirs) + 2 * sum m.chains)
    + (if t.tam then m.setup * part_count most t else 0)

-- the work of the parts of a module's live tests, and of all
abbrev pub module_work : (most : ℕ) → ModuleValue → ℕ
module_work most m = sum_by (parts_work most m) (filter is_live m.tests)

abbrev pub total_work : (most : ℕ) → SocValue → ℕ
total_work most soc = sum_by (module_work most) soc.modules

-- ---- cut tests

-- its numbers fit, and each part begins within its patterns
pub record HasRoom (c : Cut) : Type 0 where
  pub some : 1 ≤ c.count
  pub patterns : c.test.patterns < 10 ^ 12
  pub begins : (k : ℕ) → k < c.count → k * c.size ≤ c.test.patterns
  pub numbers : c.number + c.count ≤ 10 ^ 18

-- the names of cut tests
abbrev pub wholes : List Cut → List TestId
wholes cuts = map (λ (c : Cut). c.whole) cuts

-- the tests of profiles
abbrev pub profiled : List ProfileValue → List TestId
profiled profiles = map (λ (p : ProfileValue). p.test) profiles
