-- Lower times never grow with the width; least areas.
use Rattle.std.proofs.Common.{◌≡◌, ℕ, ◌+◌, ◌*◌, ◌≤◌, max, Bool, true, false, List, [], ◌∷◌, arith, inl, inr, ◌⊎◌}
use Rattle.std.specs.Prelude.{min, if◌then◌else◌}
use Rattle.std.proofs.lemmas.Bool.{cases_Bool, cases_lt, and_parts}
use Rattle.std.proofs.lemmas.List.Sums.{sum_by-cons}
use Rattle.std.proofs.Math.Nat.{mul-le-mul_left, mul-le-mul_right}
use Rattle.soc_model.specs.declared.Test.{Test}
use Rattle.soc_model.specs.Chips.{is_live}
use Rattle.plan_model.specs.Bounds.{quotient_up, least_from_one}
use Rattle.plan_model.proofs.FirstAndLeast.{least-first}
use Rattle.plan_model.proofs.LowerTimes.{quotient_up-le}
use Rattle.plan_model.proofs.Sums.{sum_by-le_at}
use Rattle.bound_rules.specs.declared.sizes.Sizes.{Sizes}
use Rattle.bound_rules.specs.Sizes.{least_chain, time_by, tam_times_by}
use Rattle.soc_model.specs.Modes.{is_tam}
use Rattle.bound_rules.proofs.Works.{up-le, tam_time_is, self_time_is, live_patterns, tam_only}

le-up : (a w : ℕ) → 1 ≤ w → a ≤ quotient_up a w * w
le-up a w h = omega arith

up-falls : (a v w : ℕ) → 1 ≤ v → v ≤ w → quotient_up a w ≤ quotient_up a v
up-falls a v w some less =
    let product : quotient_up a v * v ≤ quotient_up a v * w = mul-le-mul_left (quotient_up a v) less in
    quotient_up-le a (quotient_up a v) w (omega arith) (omega (arith, le-up a v some))

length-falls : (s : Sizes) (scan : Bool) (ends v w : ℕ) → 1 ≤ v → v ≤ w → least_chain s scan ends w ≤ least_chain s scan ends v
length-falls s true ends v w some less = omega (arith, up-falls (ends + s.flops) v w some less)
length-falls s false ends v w some less = omega (arith, up-falls ends v w some less)

time-falls : (s : Sizes) (t : Test) (v w : ℕ) → 1 ≤ v → v ≤ w → 1 ≤ t.patterns → time_by s w t ≤ time_by s v t
time-falls s t v w some less live = elim (cases_Bool t.tam) [
  | inr self ↦ omega (arith, self_time_is s t v self, self_time_is s t w self)
  | inl tam ↦
      let ins : least_chain s t.scan s.inputs w ≤ least_chain s t.scan s.inputs v = length-falls s t.scan s.inputs v w some less in
      let outs : least_chain s t.scan s.outputs w ≤ least_chain s t.scan s.outputs v = length-falls s t.scan s.outputs v w some less in
      let a = tam_time_is s t v live tam in
      let b = tam_time_is s t w live tam in
      let product : (1 + max (least_chain s t.scan s.inputs w) (least_chain s t.scan s.outputs w)) * t.patterns ≤ (1 + max (least_chain s t.scan s.inputs v) (least_chain s t.scan s.outputs v)) * t.patterns = mul-le-mul_right t.patterns (omega arith) in
      omega (arith, a, b)
]

pub times-fall : (s : Sizes) (ts : List Test) (v w : ℕ) → 1 ≤ v → v ≤ w → tam_times_by s w ts ≤ tam_times_by s v ts
times-fall s ts v w some less = sum_by-le_at (λ t. if is_tam t then time_by s w t else 0) (λ t. if is_tam t then time_by s v t else 0) ts (λ i t at. each t (cases_Bool (is_tam t))) where
  each : (t : Test) → (is_tam t ≡ true) ⊎ (is_tam t ≡ false) → (if is_tam t then time_by s w t else 0) ≤ (if is_tam t then time_by s v t else 0)
  each t (inl yes') = rw yes' (time-falls s t v w some less (live_patterns t (tam_only t yes')))
  each t (inr no') = rw no' (omega arith)

-- ---- more wires never divide a time by more than their number

times_max : (w a b a' b' : ℕ) → a ≤ w * a' → b ≤ w * b' → max a b ≤ w * max a' b'
times_max w a b a' b' p q =
    let one : w * a' ≤ w * max a' b' = mul-le-mul_left w (omega arith) in
    let two : w * b' ≤ w * max a' b' = mul-le-mul_left w (omega arith) in
    omega arith

times_min : (w a b a' b' : ℕ) → a ≤ w * a' → b ≤ w * b' → min a b ≤ w * min a' b'
times_min w a b a' b' p q = elim (cases_lt a' b') [
  | inl less ↦ let same : min a' b' ≡ a' = omega arith in rw same (omega arith)
  | inr most ↦ let same : min a' b' ≡ b' = omega arith in rw same (omega arith)
]

times_sum : (w a b a' b' : ℕ) → a ≤ w * a' → b ≤ w * b' → a + b ≤ w * (a' + b')
times_sum w a b a' b' p q =
    let split : w * (a' + b') ≡ w * a' + w * b' = omega arith in
    omega arith

length_on_one : (s : Sizes) (scan : Bool) (ends w : ℕ) → 1 ≤ w → s.longest ≤ s.flops → least_chain s scan ends 1 ≤ w * least_chain s scan ends w
length_on_one s true ends w some short =
    let one : quotient_up (ends + s.flops) 1 ≤ ends + s.flops = up-le (ends + s.flops) 1 (omega arith) in
    let whole : ends + s.flops ≤ quotient_up (ends + s.flops) w * w = le-up (ends + s.flops) w some in
    let wide : w * quotient_up (ends + s.flops) w ≤ w * max s.longest (quotient_up (ends + s.flops) w) = mul-le-mul_left w (omega arith) in
    omega arith
length_on_one s false ends w some short =
    let one : quotient_up ends 1 ≤ ends = up-le ends 1 (omega arith) in
    let whole : ends ≤ quotient_up ends w * w = le-up ends w some in
    omega arith

formula_on_one : (setup si so si' so' p w : ℕ) → 1 ≤ w → si ≤ w * si' → so ≤ w * so' → setup + (1 + max si so) * p + min si so ≤ w * (setup + (1 + max si' so') * p + min si' so')
formula_on_one setup si so si' so' p w some a b =
    let longest : max si so ≤ w * max si' so' = times_max w si so si' so' a b in
    let least : min si so ≤ w * min si' so' = times_min w si so si' so' a b in
    let once : 1 * setup ≤ w * setup = mul-le-mul_right setup some in
    let more : (1 + max si so) * p ≤ (w * (1 + max si' so')) * p = mul-le-mul_right p (omega arith) in
    let turned : (w * (1 + max si' so')) * p ≡ w * ((1 + max si' so') * p) = omega arith in
    times_sum w (setup + (1 + max si so) * p) (min si so) (setup + (1 + max si' so') * p) (min si' so') (times_sum w setup ((1 + max si so) * p) setup ((1 + max si' so') * p) (omega arith) (omega arith)) least

time_on_one : (s : Sizes) (t : Test) (w : ℕ) → 1 ≤ w → 1 ≤ t.patterns → t.tam ≡ true → s.longest ≤ s.flops → time_by s 1 t ≤ w * time_by s w t
time_on_one s t w some live tam short =
    rw (tam_time_is s t 1 live tam, tam_time_is s t w live tam)
    (formula_on_one s.setup (least_chain s t.scan s.inputs 1) (least_chain s t.scan s.outputs 1) (least_chain s t.scan s.inputs w) (least_chain s t.scan s.outputs w) t.patterns w some
    (length_on_one s t.scan s.inputs w some short) (length_on_one s t.scan s.outputs w some short))

times_on_one : (s : Sizes) (ts : List Test) (w : ℕ) → 1 ≤ w → s.longest ≤ s.flops → tam_times_by s 1 ts ≤ w * tam_times_by s w ts
times_on_one s [] w some short = omega arith
times_on_one s (t ∷ ts) w some short =
    rw (sum_by-cons (λ t. if is_tam t then time_by s 1 t else 0) t ts, sum_by-cons (λ t. if is_tam t then time_by s w t else 0) t ts)
    (times_sum w (if is_tam t then time_by s 1 t else 0) (tam_times_by s 1 ts) (if is_tam t then time_by s w t else 0) (tam_times_by s w ts) (each (cases_Bool (is_tam t))) (times_on_one s ts w some short))
  where
    each : (is_tam t ≡ true) ⊎ (is_tam t ≡ false) → (if is_tam t then time_by s 1 t else 0) ≤ w * (if is_tam t then time_by s w t else 0)
    each (inl yes') = rw yes' (time_on_one s t w some (live_patterns t (tam_only t yes')) (and_parts (is_live t) t.tam yes').1 short)
    each (inr no') = rw no' (omega arith)

-- the least area is that on one wire
pub least_on_one : (s : Sizes) (ts : List Test) (n : ℕ) → 1 ≤ n → s.longest ≤ s.flops → least_from_one (λ w. w * tam_times_by s w ts) n ≡ tam_times_by s 1 ts
least_on_one s ts n some short =
    let least : least_from_one (λ w. w * tam_times_by s w ts) n ≡ 1 * tam_times_by s 1 ts = least-first (λ w. w * tam_times_by s w ts) n some (λ v more. one (times_on_one s ts v more short)) in
    omega arith
  where
    one : {a b : ℕ} → a ≤ b → 1 * a ≤ b
    one h = omega arith
