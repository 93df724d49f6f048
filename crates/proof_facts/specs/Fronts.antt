-- The sums of the fronts of a list, and what stands between two places of it.
use Rattle.std.specs.Prelude.{◌≡◌, ℕ, ◌+◌, ◌-◌, ◌*◌, ◌≤◌, List, length, slice_index, take, drop}
use Rattle.std.specs.List.{sum}
use Rattle.plan_model.specs.Bounds.{quotient_up}

-- at place `i` stands the sum of the first `i` numbers
pub record AreFronts (xs sums : List ℕ) : Type 0 where
  pub long : length sums ≡ length xs + 1
  pub sums_are : (i : ℕ) → i ≤ length xs → slice_index sums i ≡ sum (take i xs)

-- of the k * w + 1 last numbers the k + 1 first, together
abbrev pub window : List ℕ → (w k : ℕ) → ℕ
window xs w k = sum (take (k + 1) (drop (length xs - (k * w + 1)) xs))

-- the even share of the shortest on `q` chains, where these have `k` each and all that `w` chains have beside `k` each
abbrev pub even_share : List ℕ → (w k q : ℕ) → ℕ
even_share xs w k q = quotient_up (sum (take (k * q + (length xs - k * w)) xs)) q
