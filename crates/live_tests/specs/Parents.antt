-- The parents of all modules of a chip, by their places.
use Rattle.std.specs.Prelude.{◌≡◌, ℕ, ◌≤◌, ◌<◌, Option, Some, None, List, length, slice_get, nat_lt, if◌then◌else◌}
use Rattle.soc_model.specs.Chips.{SocValue, IsParent, parent_place}

-- for a module the place of its parent; where it has none, a number that is no place
pub record HasParentAt (soc : SocValue) (parents : List ℕ) (p : ℕ) : Type 0 where
  pub q : ℕ
  pub at : slice_get parents p ≡ Some q
  pub is : q < length soc.modules → IsParent soc.modules q p
  pub only : (r : ℕ) → IsParent soc.modules r p → r ≡ q
  pub within : q ≤ length soc.modules

-- the places of the parents of all modules
abbrev pub AreParents : SocValue → List ℕ → Type 0
AreParents soc parents = (p : ℕ) → p < length soc.modules → HasParentAt soc parents p

-- for each module the place of its parent, where it has one
pub record AreParentPlaces (soc : SocValue) (parents : List (Option ℕ)) : Type 0 where
  pub long : length parents ≡ length soc.modules
  pub are : (p : ℕ) → p < length soc.modules → slice_get parents p ≡ Some (parent_place soc.modules p)

-- a place, where it is less than the count
abbrev pub below : (count place : ℕ) → Option ℕ
below count place = if nat_lt place count then Some place else None
