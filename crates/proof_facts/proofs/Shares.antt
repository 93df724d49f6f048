-- The least share and the greatest of these, found by trying each.
use Rattle.std.proofs.Common.{◌≡◌, ℕ, ◌+◌, ◌-◌, ◌*◌, ◌≤◌, ◌<◌, max, min, List, length, take, refl, ap, ◌∙◌, arith, inl, inr}
use Rattle.std.specs.List.{sum}
use Rattle.std.proofs.lemmas.Bool.{cases_lt}
use Rattle.std.proofs.lemmas.Grind.{div_ceil_times}
use Rattle.std.proofs.Math.Nat.{mul-le-mul_right}
use Rattle.plan_model.specs.Bounds.{quotient_up, least_from_one}
use Rattle.proof_facts.specs.Packed.{rising, least_share, averaging}
use Rattle.proof_facts.specs.Fronts.{even_share}
use Rattle.proof_facts.proofs.Rising.{length-rising}
use Rattle.proof_facts.proofs.Counting.{place_within}
use Rattle.proof_facts.proofs.Greatest.{sorted_long}
use Rattle.proof_facts.proofs.Averages.{quotient_up-falls, least_from_one-le, least_from_one-most, share_at-le, averaging-least}

-- ---- over how many chains have more than `k`

pub first_share : (f : ℕ → ℕ) (busy least : ℕ) → 1 ≤ busy → least ≡ f busy → ((q : ℕ) → busy - 1 < q → q ≤ busy → least ≤ f q) × (least_from_one f busy ≤ least)
first_share f busy least some is = (
  λ q more within. (let same : q ≡ busy = omega arith in rw same (omega (arith, is))),
  omega (arith, is, least_from_one-le f busy busy some (omega arith)),
)

pub one_fewer : (f : ℕ → ℕ) (busy fewer least new : ℕ) → fewer < busy → new ≡ min least (f (busy - fewer)) → ((q : ℕ) → busy - fewer < q → q ≤ busy → least ≤ f q) → (q : ℕ) → busy - (fewer + 1) < q → q ≤ busy → new ≤ f q
one_fewer f busy fewer least new some is all q more within = elim (cases_lt (busy - fewer) q) [
  | inl earlier ↦ omega (arith, is, all q earlier within)
  | inr last ↦ let same : q ≡ busy - fewer = omega arith in rw same (omega (arith, is))
]

pub still_low : (f : ℕ → ℕ) (busy fewer least new : ℕ) → fewer < busy → new ≡ min least (f (busy - fewer)) → least_from_one f busy ≤ least → least_from_one f busy ≤ new
still_low f busy fewer least new some is low = omega (arith, is, least_from_one-le f busy (busy - fewer) (omega arith) (omega arith))

pub all_shares : (f : ℕ → ℕ) (busy fewer least : ℕ) → 1 ≤ busy → busy ≤ fewer → ((q : ℕ) → busy - fewer < q → q ≤ busy → least ≤ f q) → least_from_one f busy ≤ least → least ≡ least_from_one f busy
all_shares f busy fewer least some past all low =
    let most : least ≤ least_from_one f busy = least_from_one-most f busy least some (λ q one within. all q (omega arith) within) in
    omega arith

-- with `k` at 0 the first is the least, since all scan chains are shared out
pub first_least : (xs : List ℕ) (w k busy least : ℕ) → k ≡ 0 → 1 ≤ busy → least ≡ even_share xs w k busy → least ≡ least_from_one (even_share xs w k) busy
first_least xs w k busy least none some is =
    let low : least_from_one (even_share xs w k) busy ≤ even_share xs w k busy = least_from_one-le (even_share xs w k) busy busy some (omega arith) in
    let most : least ≤ least_from_one (even_share xs w k) busy = least_from_one-most (even_share xs w k) busy least some (λ q one within. each q one within) in
    omega arith
  where
    each : (q : ℕ) → 1 ≤ q → q ≤ busy → least ≤ even_share xs w k q
    each q one within =
        let here : k * busy ≡ 0 = ap (λ v. v * busy) none ∙ omega arith in
        let there : k * q ≡ 0 = ap (λ v. v * q) none ∙ omega arith in
        let same : even_share xs w k busy ≡ quotient_up (sum (take (k * q + (length xs - k * w)) xs)) busy = rw (here, there) refl in
        omega (arith, is, same, quotient_up-falls (sum (take (k * q + (length xs - k * w)) xs)) q busy one within)

-- those that are left are of no use
pub no_more_than : (f : ℕ → ℕ) (busy chains least most : ℕ) → busy ≡ chains → least ≤ most → least_from_one f busy ≤ least → most ≡ max most (least_from_one f chains)
no_more_than f busy chains least most is less low = rw (← is) (omega arith)

-- ---- over each `k`

share_is : (xs lengths : List ℕ) (w k : ℕ) → xs ≡ rising lengths → least_from_one (even_share xs w k) (min w (length xs - k * w)) ≡ least_share lengths w k
share_is xs lengths w k is =
    rw is (ap (λ n. least_from_one (λ q. quotient_up (sum (take (k * q + (n - k * w)) (rising lengths))) q) (min w (n - k * w))) (length-rising lengths))

pub more_tried : (xs lengths : List ℕ) (w k greatest new : ℕ) → new ≡ max greatest (least_from_one (even_share xs w k) (min w (length xs - k * w))) → xs ≡ rising lengths →
    ((j : ℕ) → j < k → j * w < length xs → least_share lengths w j ≤ greatest) → (j : ℕ) → j < k + 1 → j * w < length xs → least_share lengths w j ≤ new
more_tried xs lengths w k greatest new is sorted all j less within = elim (cases_lt j k) [
  | inl earlier ↦ omega (arith, is, all j earlier within)
  | inr last ↦ let same : j ≡ k = omega arith in rw same (omega (arith, is, share_is xs lengths w k sorted))
]

pub still_within : (xs lengths : List ℕ) (w k most greatest new : ℕ) → 1 ≤ w → k * w < length xs → new ≡ max greatest (least_from_one (even_share xs w k) (min w (length xs - k * w))) → xs ≡ rising lengths →
    greatest ≤ max most (averaging lengths w) → new ≤ max most (averaging lengths w)
still_within xs lengths w k most greatest new some within is sorted so_far =
    let more : k * w < length lengths = omega (arith, sorted_long xs lengths sorted) in
    let place = place_within k w w (length lengths) some (omega arith) more in
    omega (arith, is, share_is xs lengths w k sorted, share_at-le lengths w k place.0 more)

pub all_tried : (xs lengths : List ℕ) (w k most greatest : ℕ) → 1 ≤ w → quotient_up (length xs) w ≤ k → xs ≡ rising lengths → ((j : ℕ) → j < k → j * w < length xs → least_share lengths w j ≤ greatest) → most ≤ greatest →
    greatest ≤ max most (averaging lengths w) → greatest ≡ max most (averaging lengths w)
all_tried xs lengths w k most greatest some enough sorted all low within =
    let least : averaging lengths w ≤ greatest = averaging-least lengths w greatest (λ j more. tried j (omega (arith, more, sorted_long xs lengths sorted))) in
    omega arith
  where
    tried : (j : ℕ) → j * w < length xs → least_share lengths w j ≤ greatest
    tried j more = elim (cases_lt j k) [
      | inl less ↦ all j less more
      | inr past ↦
          let up = div_ceil_times (length xs) w some in
          let wide : quotient_up (length xs) w * w ≤ j * w = mul-le-mul_right w (omega arith) in
          absurd (omega (arith, up.0))
    ]
