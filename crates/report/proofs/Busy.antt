-- On a bus whose tests never meet the busy cycles are those of its tests together.
use Rattle.std.proofs.Common.{◌≡◌, ℕ, zero, suc, ◌+◌, ◌-◌, ◌≤◌, ◌<◌, min, Bool, true, false, Some, List, [], ◌∷◌, refl, sym, ap, ◌∙◌, arith, inl, inr, ◌⊎◌, ◌&&◌, slice_get, nat_le, nat_lt, if◌then◌else◌, sum_by}
use Rattle.std.specs.List.{list_any}
use Rattle.std.proofs.lemmas.Bool.{cases_Bool, cases_lt, le-leb, lt-leb, lt-ltb, le-ltb}
use Rattle.std.proofs.lemmas.List.Sums.{sum_by-cons}
use Rattle.plan_model.specs.Bounds.{sum_below}
use Rattle.plan_model.proofs.SumsOverCycles.{sum_below-same, sum_below-add, sum_below-zero, sum_below-one, sum_below-sum_by}
use Rattle.live_tests.specs.declared.placed.PlacedTest.{PlacedTest}
use Rattle.live_tests.specs.Loads.{is_active}
use Rattle.report.specs.Totals.{cycles_of}
use Rattle.report.specs.BusLines.{is_over, is_busy, busy_cycles, idle_cycles}
use Rattle.report.specs.PlacedTests.{AreTests, active_over, cycles_over}

-- 1 where it passes
abbrev count : Bool → ℕ
count b = if b then 1 else 0

-- some item passes: as many as pass, where that is one at most
any_one : {X : Type 0} (p : X → Bool) (xs : List X) → sum_by (λ x. if p x then 1 else 0) xs ≤ 1 → (if list_any p xs then 1 else 0) ≡ sum_by (λ x. if p x then 1 else 0) xs
any_one p [] few = refl
any_one p (x ∷ xs) few = elim (cases_Bool (p x)) [
  | inl yes' ↦
      let here : count (p x) ≡ 1 = rw yes' refl in
      let any : list_any p (x ∷ xs) ≡ true = rw yes' refl in
      let all : sum_by (λ x. if p x then 1 else 0) (x ∷ xs) ≡ 1 = omega (arith, here, few, sum_by-cons (λ x. if p x then 1 else 0) x xs) in
      ap count any ∙ sym all
  | inr no' ↦
      let here : count (p x) ≡ 0 = rw no' refl in
      let any : list_any p (x ∷ xs) ≡ list_any p xs = rw no' refl in
      let all : sum_by (λ x. if p x then 1 else 0) (x ∷ xs) ≡ sum_by (λ x. if p x then 1 else 0) xs = omega (arith, here, sum_by-cons (λ x. if p x then 1 else 0) x xs) in
      ap count any ∙ any_one p xs (omega (arith, few, all)) ∙ sym all
]

-- the cycles below `n` from a start up to an end
between : (start end n : ℕ) → sum_below (λ c. if nat_le start c && nat_lt c end then 1 else 0) n ≡ min n end - start
unfolding sum_below
between start end zero = omega arith
between start end (suc n) =
    let so_far : sum_below (λ c. if nat_le start c && nat_lt c end then 1 else 0) n ≡ min n end - start = between start end n in
    rw so_far (one_more (cases_lt n start) (cases_lt n end))
  where
    one_more : (n < start) ⊎ (start ≤ n) → (n < end) ⊎ (end ≤ n) → (min n end - start) + (if nat_le start n && nat_lt n end then 1 else 0) ≡ min (suc n) end - start
    one_more (inl early) _ = rw (lt-leb start n early) (omega arith)
    one_more (inr begun) (inl active) = rw (le-leb start n begun, lt-ltb n end active) (omega arith)
    one_more (inr begun) (inr over) = rw (le-leb start n begun, le-ltb n end over) (omega arith)

-- those of one test, where it is over the bus
one_test : (b n : ℕ) (t : PlacedTest) → t.end ≤ n → sum_below (λ c. if is_over b t && is_active c t then 1 else 0) n ≡ (if is_over b t then cycles_of t else 0)
one_test b n t ends = elim (cases_Bool (is_over b t)) [
  | inl yes' ↦
      let all : min n t.end ≡ t.end = omega arith in
      rw yes' (between t.start t.end n ∙ ap (λ e. e - t.start) all)
  | inr no' ↦ rw no' (sum_below-zero n)
]

all_tests : (b n : ℕ) (tests : List PlacedTest) → ((i : ℕ) (t : PlacedTest) → slice_get tests i ≡ Some t → t.end ≤ n) → sum_by (λ (t : PlacedTest). sum_below (λ c. if is_over b t && is_active c t then 1 else 0) n) tests ≡ cycles_over tests b
all_tests b n [] ends = refl
all_tests b n (t ∷ tests) ends =
    sum_by-cons (λ (t : PlacedTest). sum_below (λ c. if is_over b t && is_active c t then 1 else 0) n) t tests
    ∙ ap (λ v. v + sum_by (λ (t : PlacedTest). sum_below (λ c. if is_over b t && is_active c t then 1 else 0) n) tests) (one_test b n t (ends 0 t refl))
    ∙ ap (λ v. (if is_over b t then cycles_of t else 0) + v) (all_tests b n tests (λ i u at. ends (suc i) u at))
    ∙ sym (sum_by-cons (λ (t : PlacedTest). if is_over b t then cycles_of t else 0) t tests)

-- all cycles of the tests of a bus
pub busy_is : (cycles : ℕ) (tests : List PlacedTest) (b : ℕ) → AreTests cycles tests → busy_cycles tests b cycles ≡ cycles_over tests b
busy_is cycles tests b are =
    sum_below-same (λ c. if is_busy tests b c then 1 else 0) (active_over tests b) cycles (λ c less. any_one (λ (t : PlacedTest). is_over b t && is_active c t) tests (are.apart b c))
    ∙ sum_below-sum_by (λ (t : PlacedTest) c. if is_over b t && is_active c t then 1 else 0) tests cycles
    ∙ all_tests b cycles tests (λ i t at. (are.end_by i t at).1)

-- busy or idle
either : (b : Bool) → (if b then 1 else 0) + (if b then 0 else 1) ≡ 1
either true = refl
either false = refl

-- and the others are idle
pub idle_is : (cycles : ℕ) (tests : List PlacedTest) (b : ℕ) → busy_cycles tests b cycles + idle_cycles tests b cycles ≡ cycles
idle_is cycles tests b =
    sym (sum_below-add (λ c. if is_busy tests b c then 1 else 0) (λ c. if is_busy tests b c then 0 else 1) cycles)
    ∙ sum_below-same (λ c. (if is_busy tests b c then 1 else 0) + (if is_busy tests b c then 0 else 1)) (λ c. 1) cycles (λ c less. either (is_busy tests b c))
    ∙ sum_below-one cycles
