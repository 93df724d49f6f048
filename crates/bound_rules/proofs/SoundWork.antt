-- What a sound chip bounds: the work of a live test, and of a module's live tests together. A caller shows by it what
-- `lower_time` requires.
use Rattle.std.proofs.Common.{◌≡◌, ℕ, ◌≤◌, ◌^◌, true, Some, get_or, slice_get, arith}
use Rattle.std.specs.List.{All}
use Rattle.std.proofs.lemmas.Option.{slice_get-get_or}
use Rattle.soc_model.specs.declared.Test.{Test}
use Rattle.soc_model.specs.Chips.{ModuleValue, SocValue, LiveTest, is_live, live_tests}
use Rattle.soc_model.specs.Sizes.{test_work}
use Rattle.soc_model.specs.SoundChips.{IsSoundChip}
use Rattle.soc_model.proofs.Limits.{work-le, test_work-le, test_work-le-at}
use Rattle.plan_model.proofs.SoundChips.{module_size-le}
use Rattle.bound_rules.specs.Sizes.{sizes_of, works_by, IsMeasurable}
use Rattle.bound_rules.proofs.Modules.{works_by-le}

-- of a live test, by the places of its module and of itself
pub live_work-le : (soc : SocValue) → IsSoundChip soc → (p q : ℕ) (m : ModuleValue) (t : Test) → slice_get soc.modules p ≡ Some m → slice_get m.tests q ≡ Some t → is_live t ≡ true → test_work m t ≤ 10 ^ 18
live_work-le soc sound p q m t at there live = omega (arith, test_work-le-at soc p q m t at there live, work-le soc sound.size)

-- of a live test, by its place among the live tests
pub live_work-le_live : (soc : SocValue) → IsSoundChip soc → (k : ℕ) (l : LiveTest) → slice_get (live_tests soc) k ≡ Some l → test_work l.core l.test ≤ 10 ^ 18
live_work-le_live soc sound k l at = omega (arith, test_work-le soc k l at, work-le soc sound.size)

-- of a module's live tests together
pub module_work-le : (soc : SocValue) → IsSoundChip soc → (p : ℕ) (m : ModuleValue) → slice_get soc.modules p ≡ Some m → works_by (sizes_of m) m.tests ≤ 10 ^ 18
module_work-le soc sound p m at = omega (arith, works_by-le soc p m at, work-le soc sound.size)

-- a module of a sound chip, by its place
pub measurable : (soc : SocValue) → IsSoundChip soc → (p : ℕ) (m : ModuleValue) → slice_get soc.modules p ≡ Some m → IsMeasurable m
measurable soc sound p m at = record { small = module_size-le soc sound p m at; work = module_work-le soc sound p m at }

pub all_measurable : (soc : SocValue) → IsSoundChip soc → All IsMeasurable soc.modules
all_measurable soc sound = λ p d less. measurable soc sound p (get_or soc.modules p d) (slice_get-get_or soc.modules p d less)
