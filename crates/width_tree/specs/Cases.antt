-- Cases on the widths of buses, the rules of a tree's nodes in their cases, and what the leaves show.
use Rattle.std.specs.Prelude.{◌≡◌, ◌⊎◌, ℕ, zero, suc, ◌+◌, ◌-◌, ◌*◌, ◌<◌, ◌≤◌, min, Option, None, Some, List, [], ◌∷◌, ◌++◌, length, replicate, slice_index_or, slice_set}
use Rattle.std.specs.List.{sum_by, Contains}
use Rattle.soc_model.specs.Chips.{SocValue}
use Rattle.soc_model.specs.Lookups.{module_place}
use Rattle.plan_model.specs.Rules.{Each, IsNew}
use Rattle.plan_model.specs.Bounds.{sum_below, quotient_up, module_bound, lower_tam_time}
use Rattle.plan_model.specs.Certificates.{on, InChip, HasTamTest}
use Rattle.width_tree.specs.declared.intervals.Interval.{Interval}
use Rattle.width_tree.specs.Trees.{LeafValue, OfTime, OfArea, OfBus, OfApart, NodeValue, OfSplit, OfLeaf, WidthTree, Leaf, Branches}

-- a case: the widths that the bus of each module may have, by the module's place in the chip
abbrev pub Case : Type 0
Case = List Interval

abbrev pub interval : (low high : ℕ) → Interval
interval low high = record { low = low; high = high }

-- the interval of the module at a place
abbrev pub interval_at : Case → ℕ → Interval
interval_at c place = slice_index_or c place (interval 0 0)

-- at the root each bus has from 1 to all wires
abbrev pub root_case : SocValue → (w : ℕ) → Case
root_case soc w = replicate (length soc.modules) (interval 1 w)

-- the case in which the module at a place has at most this width, and the one in which it has more
abbrev pub narrow_at : Case → (width place : ℕ) → Case
narrow_at c width place = slice_set c place (interval (interval_at c place).low width)

abbrev pub wide_at : Case → (width place : ℕ) → Case
wide_at c width place = slice_set c place (interval (width + 1) (interval_at c place).high)

-- the case by a place, where there is one
abbrev pub case_at : Case → (ℕ → Case) → Option ℕ → Case
case_at c f None = c
case_at c f (Some place) = f place

-- the case narrowed at the module of a number, where there is one
abbrev pub narrow_case : SocValue → Case → (number width : ℕ) → Case
narrow_case soc c m width = case_at c (narrow_at c width) (module_place soc m)

abbrev pub wide_case : SocValue → Case → (number width : ℕ) → Case
wide_case soc c m width = case_at c (wide_at c width) (module_place soc m)

-- a node in its case
pub record NodeCase : Type 0 where
  pub node : NodeValue
  pub widths : Case

abbrev pub in_case : Case → NodeValue → NodeCase
in_case c node = record { node = node; widths = c }

-- the nodes of a tree, each with its case: a split hands on the narrow case to its first branch and the wide case to its second
unfoldable pub cases_of : SocValue → Case → WidthTree → List NodeCase
cases_of soc c (Leaf leaf) = in_case c (OfLeaf leaf) ∷ []
cases_of soc c (Branches m at narrow wide) =
    in_case c (OfSplit m at) ∷ (cases_of soc (narrow_case soc c m at) narrow ++ cases_of soc (wide_case soc c m at) wide)

-- ---- the rules

-- the least and the greatest width of a module's bus, by its number
abbrev pub low_of : SocValue → Case → ℕ → ℕ
low_of soc c m = on (module_place soc m) (λ place. (interval_at c place).low)

abbrev pub high_of : SocValue → Case → ℕ → ℕ
high_of soc c m = on (module_place soc m) (λ place. (interval_at c place).high)

-- a split at a width within the interval of a module with a test over the wires, but not at its end
pub record IsSplit (soc : SocValue) (c : Case) (m width : ℕ) : Type 0 where
  pub tam : HasTamTest soc m
  pub some : low_of soc c m ≤ width
  pub below : width < high_of soc c m

-- no two buses have the wires for both modules
abbrev pub AreTooWide : SocValue → (w : ℕ) → Case → (a b : ℕ) → Type 0
AreTooWide soc w c a b = w < low_of soc c a + low_of soc c b

-- an entry of a list of modules on one bus
pub record IsBusItem (soc : SocValue) (w : ℕ) (c : Case) (earlier : List ℕ) (m : ℕ) : Type 0 where
  pub tam : HasTamTest soc m
  pub new : IsNew earlier m
  pub too_wide : (a : ℕ) → Contains earlier a → AreTooWide soc w c a m

-- two modules that need one bus, of which no width is within the intervals of both
pub record AreExclusive (soc : SocValue) (w : ℕ) (c : Case) (a b : ℕ) : Type 0 where
  pub first : HasTamTest soc a
  pub second : HasTamTest soc b
  pub differ : a ≡ b → ⊥
  pub too_wide : AreTooWide soc w c a b
  pub disjoint : (high_of soc c a < low_of soc c b) ⊎ (high_of soc c b < low_of soc c a)

abbrev pub KeepsLeaf : SocValue → (w : ℕ) → Case → LeafValue → Type 0
KeepsLeaf soc w c (OfTime m) = InChip soc m
KeepsLeaf soc w c OfArea = Unit {0}
KeepsLeaf soc w c (OfBus ms) = Each (IsBusItem soc w c) ms
KeepsLeaf soc w c (OfApart a b) = AreExclusive soc w c a b

-- the node keeps its rule in the case, on `w` wires
abbrev pub KeepsNode : SocValue → (w : ℕ) → Case → NodeValue → Type 0
KeepsNode soc w c (OfSplit m width) = IsSplit soc c m width
KeepsNode soc w c (OfLeaf leaf) = KeepsLeaf soc w c leaf

-- ---- the values

-- the least of f low .. f (low + n)
abbrev pub least_over : (ℕ → ℕ) → (low n : ℕ) → ℕ
least_over f low zero = f low
least_over f low (suc n) = min (least_over f low n) (f (low + suc n))

-- the least area of wires and cycles that the module at a place takes in the case; none where it has no test over the wires
abbrev pub area_in : SocValue → Case → ℕ → ℕ
area_in soc c place =
    least_over (λ v. v * lower_tam_time soc place v) (interval_at c place).low ((interval_at c place).high - (interval_at c place).low)

-- the lower times of a module's tests over the wires on a width, together
abbrev pub tam_time_of : SocValue → (width m : ℕ) → ℕ
tam_time_of soc width m = on (module_place soc m) (λ place. lower_tam_time soc place width)

-- the least of all wires and of the greatest widths of some modules
abbrev pub least_high : SocValue → (w : ℕ) → Case → List ℕ → ℕ
least_high soc w c [] = w
least_high soc w c (m ∷ ms) = min (high_of soc c m) (least_high soc w c ms)

-- the cycles that a good plan of the case has at least; none is said of a case without good plans
abbrev pub leaf_value : SocValue → (w : ℕ) → Case → LeafValue → Option ℕ
leaf_value soc w c (OfTime m) = Some (on (module_place soc m) (λ place. module_bound soc (interval_at c place).high place))
leaf_value soc w c OfArea = Some (quotient_up (sum_below (area_in soc c) (length soc.modules)) w)
leaf_value soc w c (OfBus ms) = Some (sum_by (tam_time_of soc (least_high soc w c ms)) ms)
leaf_value soc w c (OfApart a b) = None

abbrev pub node_shows : SocValue → (w : ℕ) → Case → NodeValue → Option ℕ
node_shows soc w c (OfSplit m width) = None
node_shows soc w c (OfLeaf leaf) = leaf_value soc w c leaf
