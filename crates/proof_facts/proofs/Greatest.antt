-- The greatest crowd, found by trying each.
use Rattle.std.proofs.Common.{◌≡◌, ℕ, ◌+◌, ◌*◌, ◌≤◌, ◌<◌, max, List, length, refl, ap, ◌∙◌, arith, inl, inr}
use Rattle.std.proofs.lemmas.Bool.{cases_lt}
use Rattle.std.proofs.lemmas.Grind.{div_ceil_times}
use Rattle.std.proofs.Math.Nat.{mul-le-mul_left, mul-le-mul_right}
use Rattle.plan_model.specs.Bounds.{quotient_up}
use Rattle.plan_model.proofs.LowerTimes.{quotient_up-le}
use Rattle.proof_facts.specs.Packed.{rising, crowd, counting}
use Rattle.proof_facts.specs.Fronts.{window}
use Rattle.proof_facts.proofs.Rising.{length-rising}
use Rattle.proof_facts.proofs.Counting.{crowd_at-le, counting-least}

window-crowd : (xs lengths : List ℕ) (w k : ℕ) → xs ≡ rising lengths → window xs w k ≡ crowd lengths w k
window-crowd xs lengths w k is = rw (is, length-rising lengths) refl

pub sorted_long : (xs lengths : List ℕ) → xs ≡ rising lengths → length xs ≡ length lengths
sorted_long xs lengths is = ap length is ∙ length-rising lengths

pub more_tried : (xs : List ℕ) (w k most new : ℕ) → new ≡ max most (window xs w k) → ((j : ℕ) → j < k → j * w < length xs → window xs w j ≤ most) → (j : ℕ) → j < k + 1 → j * w < length xs → window xs w j ≤ new
more_tried xs w k most new is all j less within = elim (cases_lt j k) [
  | inl earlier ↦ omega (arith, is, all j earlier within)
  | inr last ↦ let same : j ≡ k = omega arith in rw same (omega (arith, is))
]

pub still_within : (xs lengths : List ℕ) (w k most new : ℕ) → 1 ≤ w → k * w < length xs → new ≡ max most (window xs w k) → xs ≡ rising lengths → most ≤ counting lengths w → new ≤ counting lengths w
still_within xs lengths w k most new some within is sorted so_far =
    let own : k * 1 ≤ k * w = mul-le-mul_left k some in
    let here : crowd lengths w k ≤ counting lengths w = crowd_at-le lengths w k (omega (arith, sorted_long xs lengths sorted)) (omega (arith, sorted_long xs lengths sorted)) in
    omega (arith, is, window-crowd xs lengths w k sorted)

pub all_tried : (xs lengths : List ℕ) (w k most : ℕ) → 1 ≤ w → quotient_up (length xs) w ≤ k → ((j : ℕ) → j < k → j * w < length xs → window xs w j ≤ most) → xs ≡ rising lengths → most ≤ counting lengths w → most ≡ counting lengths w
all_tried xs lengths w k most some enough all sorted within =
    let least : counting lengths w ≤ most = counting-least lengths w most (λ j more. tried j (omega (arith, more, sorted_long xs lengths sorted))) in
    omega arith
  where
    tried : (j : ℕ) → j * w < length xs → crowd lengths w j ≤ most
    tried j more = elim (cases_lt j k) [
      | inl less ↦ omega (arith, all j less more, window-crowd xs lengths w j sorted)
      | inr past ↦
          let up = div_ceil_times (length xs) w some in
          let wide : quotient_up (length xs) w * w ≤ j * w = mul-le-mul_right w (omega arith) in
          absurd (omega (arith, up.0))
    ]

pub below_up : (n w k : ℕ) → 1 ≤ w → k < quotient_up n w → k * w < n
below_up n w k some less = elim (cases_lt (k * w) n) [
  | inl yes' ↦ yes'
  | inr past ↦ absurd (omega (arith, quotient_up-le n k w some past))
]
