-- Leaves of either kind: their rule in a case, whether they hold, and what they show.
use Rattle.std.specs.Prelude.{ℕ, List}
use Rattle.soc_model.specs.Chips.{SocValue}
use Rattle.plan_model.specs.Plans.{LimitsValue}
use Rattle.plan_model.specs.Proofs.{ListValue, LeafValue, OfSum, OfPack}
use Rattle.leaf_bounds.specs.Cases.{Case}
use Rattle.leaf_bounds.specs.Leaves.{IsSum, LeafHolds, leaf_shows}
use Rattle.leaf_bounds.specs.PackLeaves.{IsPack, PackHolds}

-- the leaf keeps its rule in its case, where the leaves before it have the work `done`
abbrev pub KeepsLeaf : SocValue → LimitsValue → List ListValue → (claim done : ℕ) → Case → LeafValue → Type 0
KeepsLeaf soc limits lists claim done c (OfSum weights) = IsSum lists c weights
KeepsLeaf soc limits lists claim done c (OfPack pricing) = IsPack soc limits.wires lists claim done c pricing

-- it holds
abbrev pub AnyLeafHolds : SocValue → LimitsValue → List ListValue → (claim : ℕ) → Case → LeafValue → Type 0
AnyLeafHolds soc limits lists claim c (OfSum weights) = LeafHolds soc limits lists claim c weights
AnyLeafHolds soc limits lists claim c (OfPack pricing) = PackHolds soc limits lists claim c pricing

-- the cycles that it shows where it doesn't: a leaf of prices shows none
abbrev pub any_leaf_shows : SocValue → LimitsValue → List ListValue → (claim : ℕ) → Case → LeafValue → ℕ
any_leaf_shows soc limits lists claim c (OfSum weights) = leaf_shows soc limits lists claim c weights
any_leaf_shows soc limits lists claim c (OfPack pricing) = 0
