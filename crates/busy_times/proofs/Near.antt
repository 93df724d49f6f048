-- Where a search that goes from place to place ends.
use Rattle.std.proofs.Common.{ℕ, ◌-◌, ◌<◌, ◌≤◌, inl, inr, List, length, get_or, arith, subst}
use Rattle.std.{specs.List.Sorted.IsNonDecreasingBy, specs.List.Sorted.IsPartitionPoint, proofs.lemmas.Bool.cases_eq}
use Rattle.busy_times.specs.{declared.points.Point.Point, Profiles.no_point}
use Rattle.common_lemmas.proofs.Lists.{any_default}

-- the point at a place doesn't stand before a cycle, and the one before that place does
pub parts_near : (points : List Point) (c place : ℕ) → IsNonDecreasingBy (λ (p : Point). p.cycle) points → place ≤ length points → (place < length points → c ≤ (get_or points place no_point).cycle) → (0 < place → (get_or points (place - 1) no_point).cycle < c) →
    IsPartitionPoint (λ (p : Point). p.cycle < c) (λ (p : Point). c ≤ p.cycle) points place
parts_near points c place ordered le late ahead = (low, high)
  where
    low : (k : ℕ) (d : Point) → 0 ≤ k → k < place → (get_or points k d).cycle < c
    low k d any lt =
        let inside : place - 1 < length points = omega (arith, lt, le) in
        let here : (get_or points k no_point).cycle ≤ (get_or points (place - 1) no_point).cycle = elim (cases_eq k (place - 1)) [
          | inl same ↦ subst (λ n. (get_or points k no_point).cycle ≤ (get_or points n no_point).cycle) same (omega arith)
          | inr apart ↦ ordered k (place - 1) no_point (omega (arith, lt, apart)) inside
        ] in
        subst (λ (p : Point). p.cycle < c) (any_default points k no_point d (omega (arith, lt, le))) (omega (arith, ahead (omega (arith, lt)), here))

    high : (k : ℕ) (d : Point) → place ≤ k → k < length points → c ≤ (get_or points k d).cycle
    high k d from lt =
        let here : (get_or points place no_point).cycle ≤ (get_or points k no_point).cycle = elim (cases_eq place k) [
          | inl same ↦ subst (λ n. (get_or points place no_point).cycle ≤ (get_or points n no_point).cycle) same (omega arith)
          | inr apart ↦ ordered place k no_point (omega (arith, from, apart)) lt
        ] in
        subst (λ (p : Point). c ≤ p.cycle) (any_default points k no_point d lt) (omega (arith, late (omega (arith, from, lt)), here))
