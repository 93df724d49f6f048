-- Lower times are at most cells times patterns, so their sums fit in a machine's number.
use Rattle.std.proofs.Common.{◌≡◌, ℕ, zero, suc, ◌+◌, ◌*◌, ◌/◌, ◌-◌, ◌≤◌, ◌<◌, max, min, Bool, true, false, Some, List, [], ◌∷◌, length, get_or, take, refl, arith, inl, inr, ◌⊎◌}
use Rattle.std.specs.Prelude.{slice_get, sum_by, ◌%◌, if◌then◌else◌}
use Rattle.std.proofs.lemmas.Bool.{cases_Bool, cases_lt, and_parts}
use Rattle.std.proofs.lemmas.Bool.Decides.{nat_tests}
use Rattle.std.proofs.lemmas.Grind.{div_ceil_times}
use Rattle.std.proofs.lemmas.List.Sums.{sum_by-cons, sum_by-take-le}
use Rattle.std.proofs.Math.Nat.{mul-le-mul_right, mul-le-mul_left}
use Rattle.std.proofs.lemmas.Option.{slice_get-get_or}
use Rattle.soc_model.specs.declared.Test.{Test}
use Rattle.soc_model.specs.Chips.{is_live}
use Rattle.plan_model.specs.Bounds.{quotient_up}
use Rattle.plan_model.proofs.OperationCounts.{ops_length}
use Rattle.plan_model.proofs.LowerTimes.{quotient_up-le}
use Rattle.plan_model.proofs.Sums.{sum_by-le_at, item-le-sum_by}
use Rattle.bound_rules.specs.declared.sizes.Sizes.{Sizes}
use Rattle.bound_rules.specs.Sizes.{least_chain, time_by, work_by, works_by, IsFitting}
use Rattle.soc_model.specs.Modes.{is_tam}

-- ---- quotients

-- a quotient up is the quotient, and one more where something is left
pub div_ceil_is : (a b : ℕ) → 1 ≤ b → a / b + min 1 (a % b) ≡ quotient_up a b
div_ceil_is a b some =
    let up = div_ceil_times a b some in
    let most : quotient_up a b ≤ a / b + min 1 (a % b) = quotient_up-le a (a / b + min 1 (a % b)) b some up.0 in
    elim (cases_lt (quotient_up a b) (a / b + min 1 (a % b))) [
      | inl less ↦
          let product : (quotient_up a b + 1) * b ≤ (a / b + min 1 (a % b)) * b = mul-le-mul_right b (omega arith) in
          let split : (quotient_up a b + 1) * b ≡ b * ((a + (b - 1)) / b) + b = omega arith in
          absurd (omega arith)
      | inr same ↦ omega arith
    ]

pub up-le : (a w : ℕ) → 1 ≤ w → quotient_up a w ≤ a
up-le a w some =
    let product : a * 1 ≤ a * w = mul-le-mul_left a some in
    quotient_up-le a a w some (omega arith)

-- ---- one test

pub least_chain-le : (s : Sizes) (scan : Bool) (ends w : ℕ) → 1 ≤ w → s.longest ≤ s.flops → least_chain s scan ends w ≤ ends + s.flops
least_chain-le s true ends w some short = omega (arith, up-le (ends + s.flops) w some)
least_chain-le s false ends w some short = omega (arith, up-le ends w some)

-- the formula of a test's time is at most its work
formula-le : (setup si so p i o f : ℕ) → 1 ≤ p → si ≤ i + f → so ≤ o + f → setup + (1 + max si so) * p + min si so ≤ p * (1 + i + o + 2 * f) + setup
formula-le setup si so p i o f live a b =
    let least : min si so * 1 ≤ min si so * p = mul-le-mul_left (min si so) live in
    let both : max si so + min si so ≤ i + o + 2 * f = omega arith in
    let product : (1 + max si so) * p + min si so * p ≡ (1 + (max si so + min si so)) * p = omega arith in
    let wide : (1 + (max si so + min si so)) * p ≤ (1 + (i + o + 2 * f)) * p = mul-le-mul_right p (omega arith) in
    let turned : p * (1 + i + o + 2 * f) ≡ (1 + (i + o + 2 * f)) * p = omega arith in
    omega arith

pub closed-le : (s : Sizes) (t : Test) (w : ℕ) → 1 ≤ w → 1 ≤ t.patterns → IsFitting s → t.tam ≡ true →
    s.setup + (1 + max (least_chain s t.scan s.inputs w) (least_chain s t.scan s.outputs w)) * t.patterns + min (least_chain s t.scan s.inputs w) (least_chain s t.scan s.outputs w) ≤ work_by s t
unfolding work_by
closed-le s t w some live fits tam =
    rw tam (formula-le s.setup (least_chain s t.scan s.inputs w) (least_chain s t.scan s.outputs w) t.patterns s.inputs s.outputs s.flops live
    (least_chain-le s t.scan s.inputs w some fits.longest) (least_chain-le s t.scan s.outputs w some fits.longest))

-- the lower time by cases
pub tam_time_is : (s : Sizes) (t : Test) (w : ℕ) → 1 ≤ t.patterns → t.tam ≡ true →
    time_by s w t ≡ s.setup + (1 + max (least_chain s t.scan s.inputs w) (least_chain s t.scan s.outputs w)) * t.patterns + min (least_chain s t.scan s.inputs w) (least_chain s t.scan s.outputs w)
unfolding time_by
tam_time_is s t w live tam = rw tam (ops_length s.setup (least_chain s t.scan s.inputs w) (least_chain s t.scan s.outputs w) t.patterns live)

pub self_time_is : (s : Sizes) (t : Test) (w : ℕ) → t.tam ≡ false → time_by s w t ≡ t.patterns
unfolding time_by
self_time_is s t w self = rw self refl

pub patterns-le : (s : Sizes) (t : Test) → t.patterns ≤ work_by s t
unfolding work_by
patterns-le s t =
    let product : t.patterns * (1 + s.inputs + s.outputs + 2 * s.flops) ≡ t.patterns + t.patterns * (s.inputs + s.outputs + 2 * s.flops) = omega arith in
    omega arith

pub time_by-le : (s : Sizes) (t : Test) (w : ℕ) → 1 ≤ w → 1 ≤ t.patterns → IsFitting s → time_by s w t ≤ work_by s t
time_by-le s t w some live fits = elim (cases_Bool t.tam) [
  | inl tam ↦ omega (arith, tam_time_is s t w live tam, closed-le s t w some live fits tam)
  | inr self ↦ omega (arith, self_time_is s t w self, patterns-le s t)
]

-- ---- a list of tests

pub live_patterns : (t : Test) → is_live t ≡ true → 1 ≤ t.patterns
live_patterns t live = grind (arith, nat_tests)

pub item_work : (s : Sizes) (ts : List Test) (i : ℕ) (t : Test) → slice_get ts i ≡ Some t → is_live t ≡ true → work_by s t ≤ works_by s ts
item_work s ts i t at live =
    let here : (if is_live t then work_by s t else 0) ≤ works_by s ts = item-le-sum_by (λ t. if is_live t then work_by s t else 0) ts i t at in
    rw live at here

-- a test that passes is live
abbrev pub OnlyLive : (Test → Bool) → Type 0
OnlyLive p = (t : Test) → p t ≡ true → is_live t ≡ true

-- the lower times of the tests of a list that pass, together
abbrev pub times_of : (Test → Bool) → Sizes → ℕ → List Test → ℕ
times_of p s w ts = sum_by (λ t. if p t then time_by s w t else 0) ts

pub times_of-le : (p : Test → Bool) (s : Sizes) (w : ℕ) (ts : List Test) → OnlyLive p → 1 ≤ w → IsFitting s → times_of p s w ts ≤ works_by s ts
times_of-le p s w ts only some fits = sum_by-le_at (λ t. if p t then time_by s w t else 0) (λ t. if is_live t then work_by s t else 0) ts (λ i t at. each t (cases_Bool (p t))) where
  each : (t : Test) → (p t ≡ true) ⊎ (p t ≡ false) → (if p t then time_by s w t else 0) ≤ (if is_live t then work_by s t else 0)
  each t (inr no') = rw no' (omega arith)
  each t (inl yes') = rw (yes', only t yes') (time_by-le s t w some (live_patterns t (only t yes')) fits)

-- one more test
next_time : (p : Test → Bool) (s : Sizes) (w : ℕ) (ts : List Test) (i : ℕ) (t : Test) → slice_get ts i ≡ Some t → p t ≡ true → times_of p s w (take i ts) + time_by s w t ≤ times_of p s w ts
next_time p s w [] i t at yes' = absurd cc
next_time p s w (x ∷ ts) zero t at yes' =
    let same : x ≡ t = cc in
    let split : times_of p s w (x ∷ ts) ≡ (if p x then time_by s w x else 0) + times_of p s w ts = sum_by-cons (λ t. if p t then time_by s w t else 0) x ts in
    let here : (if p x then time_by s w x else 0) ≡ time_by s w t = rw (same, yes') refl in
    omega arith
next_time p s w (x ∷ ts) (suc i) t at yes' =
    let a : times_of p s w (x ∷ ts) ≡ (if p x then time_by s w x else 0) + times_of p s w ts = sum_by-cons (λ t. if p t then time_by s w t else 0) x ts in
    let b : times_of p s w (x ∷ take i ts) ≡ (if p x then time_by s w x else 0) + times_of p s w (take i ts) = sum_by-cons (λ t. if p t then time_by s w t else 0) x (take i ts) in
    omega (arith, next_time p s w ts i t at yes')

-- of the test that stands at a place
pub work_at : (s : Sizes) (ts : List Test) (i : ℕ) (d : Test) → i < length ts → is_live (get_or ts i d) ≡ true → work_by s (get_or ts i d) ≤ works_by s ts
work_at s ts i d within live = item_work s ts i (get_or ts i d) (slice_get-get_or ts i d within) live

pub next_at : (p : Test → Bool) (s : Sizes) (w : ℕ) (ts : List Test) (i : ℕ) (d : Test) → OnlyLive p → 1 ≤ w → IsFitting s → i < length ts → p (get_or ts i d) ≡ true → times_of p s w (take i ts) + time_by s w (get_or ts i d) ≤ works_by s ts
next_at p s w ts i d only some fits within yes' = omega (arith, next_time p s w ts i (get_or ts i d) (slice_get-get_or ts i d within) yes', times_of-le p s w ts only some fits)

pub take-le : (p : Test → Bool) (s : Sizes) (w : ℕ) (ts : List Test) (n : ℕ) → OnlyLive p → 1 ≤ w → IsFitting s → times_of p s w (take n ts) ≤ works_by s ts
take-le p s w ts n only some fits = omega (arith, sum_by-take-le (λ t. if p t then time_by s w t else 0) ts n, times_of-le p s w ts only some fits)

pub live_only : OnlyLive is_live
live_only t live = live

pub tam_only : OnlyLive is_tam
tam_only t tam = (and_parts (is_live t) t.tam tam).0

-- what stands past the end of a list of tests
abbrev pub no_test : Test
no_test = record { number = 0; scan = false; tam = false; patterns = 0; power = 0 }
