-- The wires of buses, from one first wire to the next.
use Rattle.std.proofs.Common.{◌≡◌, ℕ, zero, suc, ◌+◌, ◌-◌, ◌≤◌, ◌<◌, Some, List, [], ◌∷◌, length, take, refl, ap, ◌∙◌, arith, slice_get, slice_index, sum}
use Rattle.std.proofs.lemmas.List.Sums.{sum_by-cons}
use Rattle.plan_model.specs.Plans.{PlanValue, widths}
use Rattle.live_tests.specs.Wires.{AreFirstWires}
use Rattle.picture.specs.Rectangles.{between, bus_wires, wires_from}

pub length-between : (xs : List ℕ) → length (between xs) ≡ length xs - 1
length-between [] = refl
length-between (a ∷ []) = refl
length-between (a ∷ b ∷ rest) = let more = length-between (b ∷ rest) in omega (arith, more)

pub between_at : (xs : List ℕ) (k : ℕ) → k < length xs - 1 → slice_get (between xs) k ≡ Some (slice_index xs k, slice_index xs (k + 1))
between_at [] k h = absurd (omega (arith, h))
between_at (a ∷ []) k h = absurd (omega (arith, h))
between_at (a ∷ b ∷ rest) zero h = refl
between_at (a ∷ b ∷ rest) (suc k) h = between_at (b ∷ rest) k (omega (arith, h)) ∙ ap (λ n. Some (slice_index (b ∷ rest) k, slice_index (a ∷ b ∷ rest) n)) (one_more k)
  where
    one_more : (n : ℕ) → suc (n + 1) ≡ suc n + 1
    one_more n = omega arith

from_first : (ws firsts : List ℕ) (first : ℕ) → length firsts ≡ length ws + 1 → ((b : ℕ) → b ≤ length ws → slice_index firsts b ≡ first + sum (take b ws)) → between firsts ≡ wires_from first ws
from_first [] [] first long each = absurd (omega (arith, long))
from_first [] (a ∷ []) first long each = refl
from_first [] (a ∷ b ∷ rest) first long each = absurd (omega (arith, long))
from_first (w ∷ ws) [] first long each = absurd (omega (arith, long))
from_first (w ∷ ws) (a ∷ []) first long each = absurd (omega (arith, long))
from_first (w ∷ ws) (a ∷ b ∷ rest) first long each =
    let one = sum_by-cons (λ (n : ℕ). n) w [] in
    let here : a ≡ first = omega (arith, each 0 (omega arith)) in
    let next : b ≡ first + w = omega (arith, each 1 (omega arith), one) in
    let others : between (b ∷ rest) ≡ wires_from (first + w) ws = from_first ws (b ∷ rest) (first + w) (omega (arith, long)) (λ k h.
    let more = sum_by-cons (λ (n : ℕ). n) w (take k ws) in
    omega (arith, each (suc k) (omega (arith, h)), more)) in
    ap (λ n. (n, b) ∷ between (b ∷ rest)) here ∙ ap (λ n. (first, n) ∷ between (b ∷ rest)) next ∙ ap (λ l. (first, first + w) ∷ l) others

pub bus_wires_are : (plan : PlanValue) (firsts : List ℕ) → AreFirstWires (widths plan) firsts → between firsts ≡ bus_wires plan
bus_wires_are plan firsts are = from_first (widths plan) firsts 0 are.long (λ b h. let first = are.first b h in omega (arith, first))
