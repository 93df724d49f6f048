-- The sum of the lengths of a mode's tests, from their number and their patterns.
use Rattle.std.proofs.Common.{◌≡◌, ℕ, suc, ◌+◌, ◌*◌, ◌≤◌, ◌<◌, max, min, Bool, true, false, List, [], ◌∷◌, length, drop, get_or, refl, sym, ap, ◌∙◌, arith, inl, inr}
use Rattle.std.specs.Prelude.{◌&&◌}
use Rattle.std.specs.List.{sum_by, sum, filter}
use Rattle.std.proofs.lemmas.List.{drop_more, drop_all}
use Rattle.std.proofs.lemmas.List.Sums.{sum_by-cons}
use Rattle.std.proofs.lemmas.Bool.{cases_Bool, ltb-true, and_parts}
use Rattle.std.proofs.Math.Nat.{mul-le-mul_right, mul-le-mul_left}
use Rattle.soc_model.specs.declared.Test.{Test}
use Rattle.soc_model.specs.Chips.{ModuleValue, is_live}
use Rattle.soc_model.specs.Sizes.{test_work}
use Rattle.plan_model.specs.Cells.{Cell, chain_cells}
use Rattle.soc_model.specs.Modes.{scan_lengths}
use Rattle.plan_model.specs.Operations.{ops_of}
use Rattle.plan_model.specs.Plans.{operations_of, si_of, so_of}
use Rattle.soc_model.specs.Modes.{same_mode}
use Rattle.plan_model.proofs.OperationCounts.{ops_length}
use Rattle.wrapper_design.specs.Design.{mode_of, design}
use Rattle.wrapper_design.specs.Balance.{in_length_of, out_length_of}
use Rattle.width_table.specs.Times.{mode_tests, mode_time}
use Rattle.soc_model.specs.Modes.{is_of_mode}

abbrev pub patterns_of : Test → ℕ
patterns_of t = t.patterns

pub live_of_mode : (scan : Bool) (t : Test) → is_of_mode scan t ≡ true → 1 ≤ t.patterns
live_of_mode scan t h = ltb-true 0 t.patterns (and_parts (is_live t) (t.tam && same_mode scan t.scan) h).0

pub tam_of_mode : (scan : Bool) (t : Test) → is_of_mode scan t ≡ true → t.tam ≡ true
tam_of_mode scan t h = (and_parts t.tam (same_mode scan t.scan) (and_parts (is_live t) (t.tam && same_mode scan t.scan) h).1).0

-- ---- one test more

pub left_none : (p : Test → Bool) (xs : List Test) (k : ℕ) → length xs ≤ k → (length (filter p (drop k xs)) ≡ 0) × (sum_by patterns_of (filter p (drop k xs)) ≡ 0)
left_none p xs k h = let e : drop k xs ≡ [] = drop_all k xs h in (ap (λ v. length (filter p v)) e, ap (λ v. sum_by patterns_of (filter p v)) e)

pub left_yes : (p : Test → Bool) (xs : List Test) (k : ℕ) (d : Test) → k < length xs → p (get_or xs k d) ≡ true →
    (length (filter p (drop k xs)) ≡ 1 + length (filter p (drop (k + 1) xs))) × (sum_by patterns_of (filter p (drop k xs)) ≡ (get_or xs k d).patterns + sum_by patterns_of (filter p (drop (k + 1) xs)))
left_yes p xs k d less yes' =
    let e : drop k xs ≡ get_or xs k d ∷ drop (k + 1) xs = drop_more xs k d less in
    (ap (λ v. length (filter p v)) e ∙ rw yes' (omega arith), ap (λ v. sum_by patterns_of (filter p v)) e ∙ rw yes' (sum_by-cons patterns_of (get_or xs k d) (filter p (drop (k + 1) xs))))

pub left_no : (p : Test → Bool) (xs : List Test) (k : ℕ) (d : Test) → k < length xs → p (get_or xs k d) ≡ false →
    (length (filter p (drop k xs)) ≡ length (filter p (drop (k + 1) xs))) × (sum_by patterns_of (filter p (drop k xs)) ≡ sum_by patterns_of (filter p (drop (k + 1) xs)))
left_no p xs k d less no' =
    let e : drop k xs ≡ get_or xs k d ∷ drop (k + 1) xs = drop_more xs k d less in
    (ap (λ v. length (filter p v)) e ∙ rw no' refl, ap (λ v. sum_by patterns_of (filter p v)) e ∙ rw no' refl)

-- ---- bounds

pub tests_few : (scan : Bool) (ts : List Test) → length (filter (is_of_mode scan) ts) ≤ sum_by patterns_of (filter (is_of_mode scan) ts)
tests_few scan [] = omega arith
tests_few scan (t ∷ ts) =
    let ih : length (filter (is_of_mode scan) ts) ≤ sum_by patterns_of (filter (is_of_mode scan) ts) = tests_few scan ts in
    elim (cases_Bool (is_of_mode scan t)) [
      | inl yes' ↦ rw yes' (omega (arith, live_of_mode scan t yes', sum_by-cons patterns_of t (filter (is_of_mode scan) ts)))
      | inr no' ↦ rw no' ih
    ]

-- ---- the closed form

pub closed : (setup si so : ℕ) (scan : Bool) (ts : List Test) →
    sum_by (λ (t : Test). length (ops_of setup si so t.patterns)) (filter (is_of_mode scan) ts) ≡ length (filter (is_of_mode scan) ts) * (setup + min si so) + (1 + max si so) * sum_by patterns_of (filter (is_of_mode scan) ts)
closed setup si so scan [] = omega arith
closed setup si so scan (t ∷ ts) =
    let rest : List Test = filter (is_of_mode scan) ts in
    let ih : sum_by (λ (t : Test). length (ops_of setup si so t.patterns)) (filter (is_of_mode scan) ts) ≡ length (filter (is_of_mode scan) ts) * (setup + min si so) + (1 + max si so) * sum_by patterns_of (filter (is_of_mode scan) ts) = closed setup si so scan ts in
    elim (cases_Bool (is_of_mode scan t)) [
      | inl yes' ↦ rw yes' (
          let here : length (ops_of setup si so t.patterns) ≡ setup + (1 + max si so) * t.patterns + min si so = ops_length setup si so t.patterns (live_of_mode scan t yes') in
          let one : sum_by (λ (t : Test). length (ops_of setup si so t.patterns)) (t ∷ filter (is_of_mode scan) ts) ≡ length (ops_of setup si so t.patterns) + sum_by (λ (t : Test). length (ops_of setup si so t.patterns)) (filter (is_of_mode scan) ts) = sum_by-cons (λ (t : Test). length (ops_of setup si so t.patterns)) t (filter (is_of_mode scan) ts) in
          let two : sum_by patterns_of (t ∷ filter (is_of_mode scan) ts) ≡ t.patterns + sum_by patterns_of (filter (is_of_mode scan) ts) = sum_by-cons patterns_of t (filter (is_of_mode scan) ts) in
          one ∙ rw (here, ih, two) (products (length (filter (is_of_mode scan) ts)) (setup + min si so) (1 + max si so) t.patterns (sum_by patterns_of (filter (is_of_mode scan) ts)) setup (min si so) refl))
      | inr no' ↦ rw no' ih
    ]
  where
    products : (n a m p q s l : ℕ) → a ≡ s + l → (s + m * p + l) + (n * a + m * q) ≡ suc n * a + m * (p + q)
    products n a m p q s l e = let one : suc n * a ≡ n * a + a = omega arith in let two : m * (p + q) ≡ m * p + m * q = omega arith in omega arith

-- ---- within the work

pub flops_le : (m : ModuleValue) (scan : Bool) → sum (scan_lengths m scan) ≤ sum m.chains
flops_le m true = omega arith
flops_le m false = omega arith

pub one_test : (m : ModuleValue) (scan : Bool) (t : Test) (si so : ℕ) → is_of_mode scan t ≡ true → si ≤ (m.inputs + m.bidirs) + sum (scan_lengths m scan) → so ≤ (m.outputs + m.bidirs) + sum (scan_lengths m scan) → length (ops_of m.setup si so t.patterns) ≤ test_work m t
one_test m scan t si so h a b =
    let tam : t.tam ≡ true = tam_of_mode scan t h in
    let live : 1 ≤ t.patterns = live_of_mode scan t h in
    let n : ℕ = (m.inputs + m.bidirs) + (m.outputs + m.bidirs) + 2 * sum m.chains in
    let few : 1 + max si so + min si so ≤ 1 + (m.inputs + m.bidirs) + (m.outputs + m.bidirs) + 2 * sum m.chains = omega (arith, flops_le m scan) in
    let product : (1 + max si so + min si so) * t.patterns ≤ (1 + (m.inputs + m.bidirs) + (m.outputs + m.bidirs) + 2 * sum m.chains) * t.patterns = mul-le-mul_right t.patterns few in
    let split : (1 + max si so + min si so) * t.patterns ≡ (1 + max si so) * t.patterns + min si so * t.patterns = omega arith in
    let once : min si so * 1 ≤ min si so * t.patterns = mul-le-mul_left (min si so) live in
    let swapped : (1 + (m.inputs + m.bidirs) + (m.outputs + m.bidirs) + 2 * sum m.chains) * t.patterns ≡ t.patterns * (1 + (m.inputs + m.bidirs) + (m.outputs + m.bidirs) + 2 * sum m.chains) = omega arith in
    rw tam (omega (arith, ops_length m.setup si so t.patterns live))

pub within_work : (m : ModuleValue) (scan : Bool) (si so : ℕ) (ts : List Test) → si ≤ (m.inputs + m.bidirs) + sum (scan_lengths m scan) → so ≤ (m.outputs + m.bidirs) + sum (scan_lengths m scan) →
    sum_by (λ (t : Test). length (ops_of m.setup si so t.patterns)) (filter (is_of_mode scan) ts) ≤ sum_by (test_work m) (filter is_live ts)
within_work m scan si so [] a b = omega arith
within_work m scan si so (t ∷ ts) a b =
    let ih : sum_by (λ (t : Test). length (ops_of m.setup si so t.patterns)) (filter (is_of_mode scan) ts) ≤ sum_by (test_work m) (filter is_live ts) = within_work m scan si so ts a b in
    let split : sum_by (test_work m) (t ∷ filter is_live ts) ≡ test_work m t + sum_by (test_work m) (filter is_live ts) = sum_by-cons (test_work m) t (filter is_live ts) in
    elim (cases_Bool (is_of_mode scan t)) [
      | inl yes' ↦
          let live : is_live t ≡ true = (and_parts (is_live t) (t.tam && same_mode scan t.scan) yes').0 in
          rw (yes', live) (omega (arith, one_test m scan t si so yes' a b, sum_by-cons (λ (t : Test). length (ops_of m.setup si so t.patterns)) t (filter (is_of_mode scan) ts)))
      | inr no' ↦ elim (cases_Bool (is_live t)) [
        | inl live ↦ rw (no', live) (omega arith)
        | inr idle ↦ rw (no', idle) ih
      ]
    ]

-- the patterns are within the work, where each counts once
pub patterns_few : (m : ModuleValue) (scan : Bool) (ts : List Test) → sum_by patterns_of (filter (is_of_mode scan) ts) ≤ sum_by (test_work m) (filter is_live ts)
patterns_few m scan ts =
    let c = closed m.setup 0 0 scan ts in
    let w = within_work m scan 0 0 ts (omega arith) (omega arith) in
    omega (arith, c, w)

pub idle_time : (m : ModuleValue) (scan : Bool) (w : ℕ) → length (mode_tests m scan) ≡ 0 → mode_time m scan w ≡ 0
unfolding mode_time
idle_time m scan w h = go (λ t. length (operations_of m t (chain_cells m scan (design (mode_of m scan) w)))) (mode_tests m scan) h where
  go : (f : Test → ℕ) (ts : List Test) → length ts ≡ 0 → sum_by f ts ≡ 0
  go f [] h = refl
  go f (t ∷ ts) h = absurd (omega arith)

-- the operations of a mode's tests are those over the wires
pub over_wires : (m : ModuleValue) (scan : Bool) (chains : List (List Cell)) (ts : List Test) →
    sum_by (λ (t : Test). length (operations_of m t chains)) (filter (is_of_mode scan) ts) ≡ sum_by (λ (t : Test). length (ops_of m.setup (si_of chains) (so_of chains) t.patterns)) (filter (is_of_mode scan) ts)
over_wires m scan chains [] = refl
over_wires m scan chains (t ∷ ts) =
    let f : Test → ℕ = λ t. length (operations_of m t chains) in
    let g : Test → ℕ = λ t. length (ops_of m.setup (si_of chains) (so_of chains) t.patterns) in
    let ih : sum_by f (filter (is_of_mode scan) ts) ≡ sum_by g (filter (is_of_mode scan) ts) = over_wires m scan chains ts in
    elim (cases_Bool (is_of_mode scan t)) [
      | inl yes' ↦
          let here : f t ≡ g t = rw (tam_of_mode scan t yes') refl in
          rw yes' (sum_by-cons f t (filter (is_of_mode scan) ts) ∙ rw (here, ih) refl ∙ sym (sum_by-cons g t (filter (is_of_mode scan) ts)))
      | inr no' ↦ rw no' ih
    ]

-- the lengths of the mode's tests, from their number and patterns and the lengths of the design
pub time_is : (m : ModuleValue) (scan : Bool) (w si so : ℕ) → si ≡ in_length_of (mode_of m scan) (design (mode_of m scan) w) → so ≡ out_length_of (mode_of m scan) (design (mode_of m scan) w) →
    mode_time m scan w ≡ length (mode_tests m scan) * (m.setup + min si so) + (1 + max si so) * sum_by patterns_of (mode_tests m scan)
unfolding mode_time
time_is m scan w si so a b =
    over_wires m scan (chain_cells m scan (design (mode_of m scan) w)) m.tests
    ∙ rw (a, b) (closed m.setup (in_length_of (mode_of m scan) (design (mode_of m scan) w)) (out_length_of (mode_of m scan) (design (mode_of m scan) w)) scan m.tests)

pub time_small : (m : ModuleValue) (scan : Bool) (si so : ℕ) → si ≤ (m.inputs + m.bidirs) + sum (scan_lengths m scan) → so ≤ (m.outputs + m.bidirs) + sum (scan_lengths m scan) →
    length (mode_tests m scan) * (m.setup + min si so) + (1 + max si so) * sum_by patterns_of (mode_tests m scan) ≤ sum_by (test_work m) (filter is_live m.tests)
time_small m scan si so a b = omega (arith, closed m.setup si so scan m.tests, within_work m scan si so m.tests a b)
