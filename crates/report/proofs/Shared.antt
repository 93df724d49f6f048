-- The peak of a load, and the cycles of buses.
use Rattle.std.proofs.Common.{◌≡◌, ℕ, zero, suc, ◌≤◌, ◌<◌, refl, ap, arith, inl, inr, ◌⊎◌}
use Rattle.std.proofs.lemmas.Bool.{cases_lt, lt-ltb, le-ltb}
use Rattle.soc_model.specs.Chips.{SocValue}
use Rattle.soc_model.specs.SoundChips.{IsSoundChip}
use Rattle.plan_model.specs.Plans.{LimitsValue, PlanValue}
use Rattle.plan_model.specs.Rules.{IsGood}
use Rattle.live_tests.specs.Placed.{placed_tests}
use Rattle.report.specs.declared.peak.Peak.{Peak}
use Rattle.report.specs.Laws.{IsPeak, IsShared}
use Rattle.report.specs.Peaks.{higher, peak}
use Rattle.report.proofs.Busy.{busy_is, idle_is}
use Rattle.report.proofs.GoodPlans.{are_tests}

-- one cycle more
next_peak : (load : ℕ → ℕ) (n : ℕ) (p : Peak) → IsPeak load n p → IsPeak load (suc n) (higher p n (load n))
next_peak load n p is = elim (cases_lt p.power (load n)) [
  | inl more ↦
      rw (lt-ltb p.power (load n) more) (record {
        most = λ c less. below c (cases_lt c n) less (λ l. is.most c l) more;
        first = λ c less. omega (arith, is.most c less, more);
        attained = λ some. (omega arith, refl);
        none = λ no_power. absurd (omega (arith, no_power, more));
      })
  | inr low ↦
      rw (le-ltb p.power (load n) low) (record {
        most = λ c less. as_before c (cases_lt c n) less (λ l. is.most c l) low;
        first = is.first;
        attained = λ some. let a = is.attained some in (omega (arith, a.0), a.1);
        none = is.none;
      })
]
  where
    below : (c : ℕ) → (c < n) ⊎ (n ≤ c) → c < suc n → (c < n → load c ≤ p.power) → p.power < load n → load c ≤ load n
    below c (inl earlier) less most more = omega (arith, most earlier, more)
    below c (inr last) less most more = let e : c ≡ n = omega arith in let same : load c ≡ load n = ap load e in omega (arith, same)

    as_before : (c : ℕ) → (c < n) ⊎ (n ≤ c) → c < suc n → (c < n → load c ≤ p.power) → load n ≤ p.power → load c ≤ p.power
    as_before c (inl earlier) less most low = most earlier
    as_before c (inr last) less most low = let e : c ≡ n = omega arith in let same : load c ≡ load n = ap load e in omega (arith, same, low)

pub peaks_are : (load : ℕ → ℕ) (cycles : ℕ) → IsPeak load cycles (peak load cycles)
unfolding peak
peaks_are load zero = record { most = λ c less. absurd (omega arith); first = λ c less. absurd (omega arith); attained = λ some. absurd (omega arith); none = λ e. refl }
peaks_are load (suc n) = next_peak load n (peak load n) (peaks_are load n)

pub buses_shared : (soc : SocValue) (limits : LimitsValue) (plan : PlanValue) (bus : ℕ) → IsSoundChip soc → IsGood soc limits plan → IsShared (placed_tests soc plan) bus plan.cycles
buses_shared soc limits plan bus sound good = record {
  all = idle_is plan.cycles (placed_tests soc plan) bus;
  busy = busy_is plan.cycles (placed_tests soc plan) bus (are_tests soc limits plan sound good);
}
