-- Counting: what a crowd of scan chains shows. It never grows with the wires, and is no more than all scan chains together.
use Rattle.std.proofs.Common.{◌≡◌, ℕ, ◌+◌, ◌-◌, ◌*◌, ◌≤◌, ◌<◌, true, false, Some, List, map, length, get_or, refl, ap, ◌∙◌, arith, zero-add, inl, inr, ◌⊎◌, ltb}
use Rattle.std.specs.Prelude.{slice_get, if◌then◌else◌}
use Rattle.std.specs.List.{sum, range_with_len}
use Rattle.std.proofs.lemmas.Bool.{cases_Bool, lt-ltb, ltb-true}
use Rattle.std.proofs.lemmas.List.{length-map}
use Rattle.std.proofs.lemmas.List.FromFn.{length-range_with_len, get_or-range_with_len}
use Rattle.std.proofs.lemmas.Option.{slice_get-get_or}
use Rattle.std.proofs.Math.Nat.{mul-le-mul_left}
use Rattle.plan_model.specs.Plans.{greatest}
use Rattle.plan_model.proofs.Greatest.{le-greatest_at, greatest-least}
use Rattle.proof_facts.specs.Packed.{rising, crowd, counting}
use Rattle.proof_facts.proofs.Rising.{rising-rises, length-rising, sum_by-rising, window-le, window-le-sum}
use Rattle.proof_facts.proofs.Crowds.{second, held, beyond, crowd-in_boxes}

-- ---- the greatest over each `k` with `k * w < n`

pub within_at-le : (f : ℕ → ℕ) (n w k : ℕ) → k < n → k * w < n → f k ≤ greatest (map (λ k. if ltb (k * w) n then f k else 0) (range_with_len 0 n))
within_at-le f n w k within more =
    let long : length (range_with_len 0 n) ≡ n = length-range_with_len 0 n in
    let number : get_or (range_with_len 0 n) k 0 ≡ k = get_or-range_with_len 0 n k 0 (omega arith) ∙ zero-add k in
    let here : slice_get (range_with_len 0 n) k ≡ Some k = slice_get-get_or (range_with_len 0 n) k 0 (omega arith) ∙ ap Some number in
    let value : (if ltb (k * w) n then f k else 0) ≡ f k = rw (lt-ltb (k * w) n more) refl in
    omega (arith, le-greatest_at (λ k. if ltb (k * w) n then f k else 0) (range_with_len 0 n) k k here)

pub within-least : (f : ℕ → ℕ) (n w most : ℕ) → ((k : ℕ) → k * w < n → f k ≤ most) → greatest (map (λ k. if ltb (k * w) n then f k else 0) (range_with_len 0 n)) ≤ most
within-least f n w most h = greatest-least (λ k. if ltb (k * w) n then f k else 0) most (range_with_len 0 n) (λ i k at. each k (cases_Bool (ltb (k * w) n))) where
  each : (k : ℕ) → (ltb (k * w) n ≡ true) ⊎ (ltb (k * w) n ≡ false) → (if ltb (k * w) n then f k else 0) ≤ most
  each k (inl yes') = rw yes' (h k (ltb-true (k * w) n yes'))
  each k (inr no') = rw no' (omega arith)

-- where `k * w` is less than `n`, `k` is too, and so it is with fewer wires
pub place_within : (k v w n : ℕ) → 1 ≤ v → v ≤ w → k * w < n → (k < n) × (k * v < n)
place_within k v w n some less more =
    let product : k * v ≤ k * w = mul-le-mul_left k less in
    let own : k * 1 ≤ k * v = mul-le-mul_left k some in
    (omega arith, omega arith)

-- ---- of crowds

pub crowd_at-le : (lengths : List ℕ) (v k : ℕ) → k < length lengths → k * v < length lengths → crowd lengths v k ≤ counting lengths v
unfolding counting
crowd_at-le lengths v k within more = within_at-le (crowd lengths v) (length lengths) v k within more

pub counting-least : (lengths : List ℕ) (w most : ℕ) → ((k : ℕ) → k * w < length lengths → crowd lengths w k ≤ most) → counting lengths w ≤ most
unfolding counting
counting-least lengths w most h = within-least (crowd lengths w) (length lengths) w most h

crowd-falls : (lengths : List ℕ) (v w k : ℕ) → 1 ≤ v → v ≤ w → k * w < length lengths → crowd lengths w k ≤ crowd lengths v k
crowd-falls lengths v w k some less more =
    let product : k * v ≤ k * w = mul-le-mul_left k less in
    let own : k * 1 ≤ k * v = mul-le-mul_left k some in
    let long : length (rising lengths) ≡ length lengths = length-rising lengths in
    window-le (k + 1) (length lengths - (k * w + 1)) (length lengths - (k * v + 1)) (rising lengths) (rising-rises lengths) (omega arith) (omega arith)

pub counting-falls : (lengths : List ℕ) (v w : ℕ) → 1 ≤ v → v ≤ w → counting lengths w ≤ counting lengths v
counting-falls lengths v w some less = counting-least lengths w (counting lengths v) (λ k more.
    let within = place_within k v w (length lengths) some less more in
    omega (arith, crowd-falls lengths v w k some less more, crowd_at-le lengths v k within.0 within.1))

pub counting-le-sum : (lengths : List ℕ) (w : ℕ) → counting lengths w ≤ sum lengths
counting-le-sum lengths w = counting-least lengths w (sum lengths) (λ k more.
    let whole : sum (rising lengths) ≡ sum lengths = sum_by-rising (λ x. x) lengths in
    omega (arith, window-le-sum (k + 1) (length lengths - (k * w + 1)) (rising lengths)))

-- ---- of numbers in boxes

-- lengths in any order, in at most `w` boxes none of which holds more than `most`
pub record Boxed (lengths : List ℕ) (w most : ℕ) : Type 0 where
  pub boxes : ℕ
  pub ps : List (ℕ × ℕ)
  pub few : boxes ≤ w
  pub inside : beyond boxes ps ≡ 0
  pub order : rising (map second ps) ≡ rising lengths
  pub long : length ps ≡ length lengths
  pub holds : (b : ℕ) → held b ps ≤ most

pub counting-boxed : (lengths : List ℕ) (w most : ℕ) → Boxed lengths w most → counting lengths w ≤ most
counting-boxed lengths w most in_boxes = counting-least lengths w most (λ k more.
    let long : length (map second in_boxes.ps) ≡ length lengths = length-map in_boxes.ps second ∙ in_boxes.long in
    let same : crowd (map second in_boxes.ps) w k ≡ crowd lengths w k = rw (long, in_boxes.order) refl in
    let box = crowd-in_boxes in_boxes.boxes w k in_boxes.ps in_boxes.few in_boxes.inside (omega (arith, in_boxes.long)) in
    omega (arith, box.1, in_boxes.holds box.0))
