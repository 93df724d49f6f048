-- The sum of the least areas fits.
use Rattle.std.proofs.Common.{◌≡◌, ℕ, suc, ◌+◌, ◌*◌, ◌≤◌, ◌<◌, ◌^◌, Some, None, length, refl, arith, inl, inr, ◌⊎◌, get_or}
use Rattle.std.specs.Prelude.{slice_get, if◌then◌else◌}
use Rattle.std.specs.List.{sum_by}
use Rattle.std.proofs.lemmas.Option.{slice_get_cases}
use Rattle.soc_model.specs.Chips.{ModuleValue, SocValue, LiveTest, live_tests}
use Rattle.plan_model.specs.Bounds.{sum_below, is_of, lower_tam_time, module_area}
use Rattle.soc_model.specs.Sizes.{test_work, work}
use Rattle.soc_model.specs.SoundChips.{IsSoundChip}
use Rattle.soc_model.proofs.Limits.{work-le}
use Rattle.plan_model.proofs.SoundChips.{module_size-le}
use Rattle.plan_model.proofs.SumsOverCycles.{sum_below-sum_by, sum_below-le_by, indicator-le}
use Rattle.plan_model.proofs.FirstAndLeast.{least-le}
use Rattle.plan_model.proofs.Sums.{sum_by-le_at}
use Rattle.bound_rules.specs.Sizes.{sizes_of}
use Rattle.soc_model.specs.Modes.{is_tam}
use Rattle.bound_rules.proofs.Works.{times_of-le, tam_only}
use Rattle.bound_rules.proofs.Modules.{fitting_sizes, tam_times_are, works_are, work_at_place}

area-le : (soc : SocValue) (w p : ℕ) (m : ModuleValue) → IsSoundChip soc → 1 ≤ w → slice_get soc.modules p ≡ Some m → module_area soc w p ≤ work_at_place soc p
area-le soc w p m sound some at =
    let least : module_area soc w p ≤ 1 * lower_tam_time soc p 1 = least-le (λ v. v * lower_tam_time soc p v) w 1 (omega arith) some in
    omega (arith, tam_times_are soc 1 p m at, times_of-le is_tam (sizes_of m) 1 m.tests tam_only (omega arith) (fitting_sizes m (module_size-le soc sound p m at)), works_are soc p m at)

places_work : (soc : SocValue) (n : ℕ) → sum_below (work_at_place soc) n ≤ work soc
places_work soc n =
    let swap : sum_below (work_at_place soc) n ≡ sum_by (λ l. sum_below (λ p. if is_of p l then test_work l.core l.test else 0) n) (live_tests soc) =
    sum_below-sum_by (λ (l : LiveTest) p. if is_of p l then test_work l.core l.test else 0) (live_tests soc) n in
    let each : sum_by (λ (l : LiveTest). sum_below (λ p. if is_of p l then test_work l.core l.test else 0) n) (live_tests soc) ≤ work soc =
    sum_by-le_at (λ (l : LiveTest). sum_below (λ p. if is_of p l then test_work l.core l.test else 0) n) (λ (l : LiveTest). test_work l.core l.test) (live_tests soc)
    (λ i l at. indicator-le (λ p. test_work l.core l.test) l.place n) in
    omega arith

pub areas-fit : (soc : SocValue) (w n : ℕ) → IsSoundChip soc → 1 ≤ w → n ≤ length soc.modules → sum_below (module_area soc w) n ≤ 10 ^ 18
areas-fit soc w n sound some within =
    let by_place : sum_below (module_area soc w) n ≤ sum_below (work_at_place soc) n = sum_below-le_by (module_area soc w) (work_at_place soc) n (λ p less. at_place p (slice_get_cases soc.modules p).1 (omega arith)) in
    omega (arith, places_work soc n, work-le soc sound.size)
  where
    at_place : (p : ℕ) → ((x : ModuleValue) × (p < length soc.modules) × (slice_get soc.modules p ≡ Some x) × (get_or soc.modules p x ≡ x)) ⊎ ((length soc.modules ≤ p) × (slice_get soc.modules p ≡ None)) → p < length soc.modules → module_area soc w p ≤ work_at_place soc p
    at_place p (inl m) h = area-le soc w p m.0 sound some m.2
    at_place p (inr past) h = absurd (omega (arith, past.0))

pub next-area : (f : ℕ → ℕ) (n m : ℕ) → m ≡ n + 1 → sum_below f m ≡ sum_below f n + f n
unfolding sum_below
next-area f n m is = let same : m ≡ suc n = omega arith in rw same refl
