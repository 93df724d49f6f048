-- The first width at which a time is less than a bound.
use Rattle.std.proofs.Common.{◌≡◌, ℕ, suc, ◌+◌, ◌-◌, ◌≤◌, ◌<◌, refl, arith}
use Rattle.std.proofs.lemmas.Bool.{le-ltb}
use Rattle.report.specs.ModuleLines.{first_faster}

-- a width at which it isn't is passed over
pub not_at : (f : ℕ → ℕ) (bound from end : ℕ) → from < end → bound ≤ f from → first_faster f bound (from + 1) (end - (from + 1)) ≡ first_faster f bound from (end - from)
not_at f bound from end less slow =
    let e : end - from ≡ suc (end - (from + 1)) = omega arith in
    rw (e, le-ltb (f from) bound slow) refl
