-- The greatest of some values.
use Rattle.std.specs.Prelude.{◌≡◌, ◌≤◌, ℕ}

-- a value of these that none passes
pub record IsGreatest {X : Type 0} (Is : X → Type 0) (value : X → ℕ) (n : ℕ) : Type 0 where
  pub best : X
  pub is : Is best
  pub reached : value best ≡ n
  pub most : (x : X) → Is x → value x ≤ n
