-- Greatest sums of lower times over precedence chains that end in a test, as they come to be known.
use Rattle.std.specs.Prelude.{◌≡◌, ℕ, ◌<◌, ◌≤◌, ◌⊎◌, Bool, true, false, Some, List, length, slice_get, if◌then◌else◌}
use Rattle.std.specs.List.{sum_by, Contains}
use Rattle.soc_model.specs.Chips.{SocValue}
use Rattle.plan_model.specs.Plans.{LimitsValue}
use Rattle.plan_model.specs.SoundLimits.{IsAcyclic}
use Rattle.bound_certificate.specs.declared.sums.Sum.{Sum}
use Rattle.bound_certificate.specs.declared.sums.Sum.TheVariants.{Unknown, Begun, Known}
use Rattle.bound_certificate.specs.Best.{IsGreatestSum}
use Rattle.bound_certificate.specs.Nodes.{NodeValue, AreNodes}

-- the test at a place has this greatest sum
abbrev pub HasSum : SocValue → LimitsValue → List NodeValue → (place s : ℕ) → Type 0
HasSum soc limits nodes place s = (n : NodeValue) → slice_get nodes place ≡ Some n → IsGreatestSum soc limits n.id s

-- what is known is right
pub record AreRight (soc : SocValue) (limits : LimitsValue) (nodes : List NodeValue) (sums : List Sum) : Type 0 where
  pub right : (i s : ℕ) → slice_get sums i ≡ Some (Known s) → HasSum soc limits nodes i s

-- tests that were not begun stay so, none more stands begun, and what is known stays right
pub record GoOn (nodes : List NodeValue) (old new : List Sum) : Type 0 where
  pub long : length new ≡ length old
  pub unknown : (i : ℕ) → slice_get new i ≡ Some Unknown → slice_get old i ≡ Some Unknown
  pub begun : (i : ℕ) → slice_get new i ≡ Some Begun → slice_get old i ≡ Some Begun
  pub right : (soc : SocValue) (limits : LimitsValue) → AreNodes soc limits nodes → AreRight soc limits nodes old →
      AreRight soc limits nodes new

-- the tests of an acyclic chip
pub record AreAcyclic (nodes : List NodeValue) : Type 0 where
  pub soc : SocValue
  pub limits : LimitsValue
  pub acyclic : IsAcyclic soc limits
  pub are : AreNodes soc limits nodes

-- a rank goes up along each precedence
abbrev pub IsRank : List NodeValue → (ℕ → ℕ) → Type 0
IsRank nodes rank = (i j : ℕ) (n : NodeValue) → slice_get nodes j ≡ Some n → Contains n.before i → rank i < rank j

-- all tests that stand begun come after the test
pub record IsUnderWay (nodes : List NodeValue) (sums : List Sum) (test : ℕ) : Type 0 where
  pub graph : AreAcyclic nodes
  pub right : AreRight graph.soc graph.limits nodes sums
  pub rank : ℕ → ℕ
  pub ranked : IsRank nodes rank
  pub later : (i : ℕ) → slice_get sums i ≡ Some Begun → rank test < rank i

-- the greatest of the sums of these tests, or 0 where there is none
pub record IsMost (soc : SocValue) (limits : LimitsValue) (nodes : List NodeValue) (places : List ℕ) (most : ℕ) : Type 0 where
  pub within : (k p : ℕ) → slice_get places k ≡ Some p → (s : ℕ) × (s ≤ most) × HasSum soc limits nodes p s
  pub attained : (most ≡ 0) ⊎ ((p : ℕ) × Contains places p × HasSum soc limits nodes p most)

abbrev pub is_unknown : Sum → Bool
is_unknown Unknown = true
is_unknown Begun = false
is_unknown (Known s) = false

-- how many tests are not begun
abbrev pub unknown_count : List Sum → ℕ
unknown_count sums = sum_by (λ s. if is_unknown s then 1 else 0) sums

-- the greatest sum of each test
pub record AreSums (soc : SocValue) (limits : LimitsValue) (nodes : List NodeValue) (sums : List ℕ) : Type 0 where
  pub long : length sums ≡ length nodes
  pub right : (i s : ℕ) → slice_get sums i ≡ Some s → HasSum soc limits nodes i s
