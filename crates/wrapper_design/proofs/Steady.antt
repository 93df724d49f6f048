-- Widths over which the longest paths stay as they are.
use Rattle.std.proofs.Common.{◌≡◌, ℕ, ◌+◌, ◌-◌, ◌*◌, ◌≤◌, ◌<◌, ◌/◌, max, List, length, map, refl, arith, inl, inr}
use Rattle.std.specs.List.{sum}
use Rattle.std.proofs.Math.Nat.{le-div_iff_mul-le, mul-le-mul_left, mul-le-mul_right}
use Rattle.std.proofs.lemmas.Bool.{cases_lt}
use Rattle.plan_model.specs.Bounds.{quotient_up}
use Rattle.plan_model.specs.Plans.{greatest}
use Rattle.plan_model.proofs.LowerTimes.{quotient_up-le}
use Rattle.wrapper_design.specs.declared.order.ScanChain.{ScanChain}
use Rattle.wrapper_design.specs.Balance.{in_length_of, out_length_of}
use Rattle.wrapper_design.specs.Design.{Mode, design}
use Rattle.wrapper_design.specs.Loads.{IsOrder}
use Rattle.wrapper_design.proofs.Alone.{longest_alone}
use Rattle.wrapper_design.proofs.Filled.{quotient_up-enough}
use Rattle.wrapper_design.proofs.Limits.{in_path, out_path}

-- ---- shares

falls : (n w v : ℕ) → 1 ≤ w → w ≤ v → quotient_up n v ≤ quotient_up n w
falls n w v some le =
    let enough : n ≤ quotient_up n w * w = quotient_up-enough n w some in
    let wider : quotient_up n w * w ≤ quotient_up n w * v = mul-le-mul_left (quotient_up n w) le in
    quotient_up-le n (quotient_up n w) v (omega arith) (omega arith)

above : (n s v : ℕ) → 1 ≤ v → s * v < n → s < quotient_up n v
above n s v some more = elim (cases_lt s (quotient_up n v)) [
  | inl less ↦ less
  | inr no' ↦
      let enough : n ≤ quotient_up n v * v = quotient_up-enough n v some in
      let less : quotient_up n v * v ≤ s * v = mul-le-mul_right v (omega (arith, no')) in
      absurd (omega arith)
]

some_cells : (n w : ℕ) → 1 ≤ w → 1 ≤ quotient_up n w → 1 ≤ n
some_cells n w some share = elim (cases_lt 0 n) [
  | inl less ↦ omega (arith, less)
  | inr no' ↦ let none : quotient_up n w ≤ 0 = quotient_up-le n 0 w some (omega (arith, no')) in absurd (omega (arith, none, share))
]

-- a level that no share passes any more
pub level_least : (longest n w v reached : ℕ) → 1 ≤ w → w ≤ v → reached ≡ max longest (quotient_up n w) → reached ≤ max longest 1 → max longest (quotient_up n v) ≡ reached
level_least longest n w v reached some le is low =
    let less = falls n w v some le in
    elim (cases_lt 0 (quotient_up n w)) [
      | inl share ↦
          let cells = some_cells n w some share in
          let more = above n 0 v (omega arith) (omega (arith, cells)) in
          omega (arith, less, more, is, low)
      | inr no' ↦ omega (arith, less, no', is)
    ]

-- a level that a share reaches
pub share_is : (longest n w reached : ℕ) → 1 ≤ w → reached ≡ max longest (quotient_up n w) → max longest 1 < reached → (1 ≤ n) × (w ≤ (n - 1) / (reached - 1))
share_is longest n w reached some is high =
    let share : quotient_up n w ≡ reached = omega (arith, is, high) in
    let cells = some_cells n w some (omega (arith, share, high)) in
    let within : w * (reached - 1) ≤ n - 1 = elim (cases_lt ((reached - 1) * w) n) [
      | inl less ↦ omega (arith, less)
      | inr no' ↦ let few = quotient_up-le n (reached - 1) w some (omega (arith, no')) in absurd (omega (arith, few, share, high))
    ] in
    (cells, (le-div_iff_mul-le (omega (arith, high))).1 within)

pub share_stays : (longest n w v reached : ℕ) → 1 ≤ w → w ≤ v → reached ≡ max longest (quotient_up n w) → max longest 1 < reached → v ≤ (n - 1) / (reached - 1) → max longest (quotient_up n v) ≡ reached
share_stays longest n w v reached some le is high within =
    let cells = (share_is longest n w reached some is high).0 in
    let product : v * (reached - 1) ≤ n - 1 = (le-div_iff_mul-le {k = reached - 1} {x = v} {y = n - 1} (omega (arith, high))).0 within in
    let more = above n (reached - 1) v (omega arith) (omega (arith, product, cells)) in
    let less = falls n w v some le in
    omega (arith, more, less, is, high)

-- ---- where no scan chain shares a chain with another

pub in_alone : (m : Mode) (order : List ScanChain) (v longest flops : ℕ) → 1 ≤ v → IsOrder m.lengths order → length order ≤ v → longest ≡ greatest (map (λ (c : ScanChain). c.length.0) order) → flops ≡ sum m.lengths → max longest (quotient_up (m.ins + flops) v) ≡ in_length_of m (design m v)
in_alone m order v longest flops some is few longest_is flops_are =
    (in_path m v longest flops (max longest (quotient_up (m.ins + flops) v)) some (longest_alone m.lengths order v longest is few longest_is) flops_are refl).0

pub out_alone : (m : Mode) (order : List ScanChain) (v longest flops : ℕ) → 1 ≤ v → IsOrder m.lengths order → length order ≤ v → longest ≡ greatest (map (λ (c : ScanChain). c.length.0) order) → flops ≡ sum m.lengths → max longest (quotient_up (m.outs + flops) v) ≡ out_length_of m (design m v)
out_alone m order v longest flops some is few longest_is flops_are =
    (out_path m v longest flops (max longest (quotient_up (m.outs + flops) v)) some (longest_alone m.lengths order v longest is few longest_is) flops_are refl).0
