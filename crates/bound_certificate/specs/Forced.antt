-- What is known of the entries of a forced list that were taken.
use Rattle.std.specs.Prelude.{◌≡◌, ℕ, ◌+◌, ◌≤◌, ◌⊎◌, Bool, true, false, Some, List, slice_index_or}
use Rattle.std.specs.List.{Contains}
use Rattle.soc_model.specs.Chips.{SocValue}
use Rattle.soc_model.specs.Lookups.{module_place}
use Rattle.plan_model.specs.Certificates.{need_of}

-- exactly their places are marked, and `least` is their least need, or w + 1 where there is none
pub record IsForcedSoFar (soc : SocValue) (w b : ℕ) (earlier : List ℕ) (marks : List Bool) (least : ℕ) : Type 0 where
  pub marked : (m p : ℕ) → Contains earlier m → module_place soc m ≡ Some p → slice_index_or marks p false ≡ true
  pub only : (p : ℕ) → slice_index_or marks p false ≡ true → (m : ℕ) × Contains earlier m × (module_place soc m ≡ Some p)
  pub least_le : (m : ℕ) → Contains earlier m → least ≤ need_of soc w b m
  pub least_is : (least ≡ w + 1) ⊎ ((m : ℕ) × Contains earlier m × (need_of soc w b m ≡ least))
