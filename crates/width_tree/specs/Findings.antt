-- What the check of a tree keeps of a case, and what it finds at a node.
use Rattle.std.specs.Prelude.{◌≡◌, ◌⊎◌, ℕ, ◌+◌, ◌-◌, ◌*◌, ◌<◌, ◌≤◌, None, Some, List, length, sum, slice_index}
use Rattle.std.specs.List.{Contains}
use Rattle.soc_model.specs.Chips.{SocValue}
use Rattle.soc_model.specs.Lookups.{module_place}
use Rattle.width_tree.specs.declared.intervals.Interval.{Interval}
use Rattle.width_tree.specs.declared.areas.Widths.{Widths}
use Rattle.width_tree.specs.declared.leaves.Finding.{Finding}
use Rattle.width_tree.specs.declared.leaves.Finding.TheVariants.{Broken, Unsaid, Shows}
use Rattle.width_tree.specs.declared.lists.Least.{Least}
use Rattle.width_tree.specs.Trees.{NodeValue}
use Rattle.width_tree.specs.Cases.{Case, interval_at, least_over, low_of, least_high, KeepsNode, node_shows}
use Rattle.width_tree.specs.Tables.{place_of_time}

-- the least area of the module at a place within an interval, by a table of times
abbrev pub area_by : List ℕ → Interval → ℕ → ℕ
area_by times i place = least_over (λ v. v * slice_index times (place_of_time place v)) i.low (i.high - i.low)

-- an interval of some of the wires
pub record IsInterval (w : ℕ) (i : Interval) : Type 0 where
  pub some : 1 ≤ i.low
  pub order : i.low ≤ i.high
  pub few : i.high ≤ w

-- `n` intervals, each of some of the wires
pub record AreIntervals (w n : ℕ) (c : Case) : Type 0 where
  pub long : length c ≡ n
  pub each : (place : ℕ) → place < n → IsInterval w (interval_at c place)

-- the intervals of a case, the areas within them, and their sum
pub record AreWidths (w n : ℕ) (times : List ℕ) (widths : Widths) : Type 0 where
  pub intervals : AreIntervals w n widths.intervals.items
  pub long : length widths.areas.items ≡ n
  pub areas : (place : ℕ) → place < n → slice_index widths.areas.items place
      ≡ area_by times (interval_at widths.intervals.items place) place
  pub total : widths.total ≡ sum widths.areas.items

-- ---- what is found at a node

-- it breaks its rule; or keeps it and shows no cycles; or keeps it and shows `cycles` cycles
abbrev pub IsFinding : SocValue → (w : ℕ) → Case → NodeValue → Finding → Type 0
IsFinding soc w c n Broken = KeepsNode soc w c n → ⊥
IsFinding soc w c n Unsaid = KeepsNode soc w c n × (node_shows soc w c n ≡ None)
IsFinding soc w c n (Shows cycles) = KeepsNode soc w c n × (node_shows soc w c n ≡ Some cycles)

-- ---- lists of modules on one bus

-- Exactly the places of these modules are stamped, `least.low` is their least low width, or w + 1 where there is none, and
-- `least.high` their least high one.
pub record IsBusSoFar (soc : SocValue) (w : ℕ) (c : Case) (earlier : List ℕ) (marks : List ℕ) (stamp : ℕ) (least : Least) : Type 0 where
  pub marked : (m p : ℕ) → Contains earlier m → module_place soc m ≡ Some p → slice_index marks p ≡ stamp
  pub only : (p : ℕ) → slice_index marks p ≡ stamp → (m : ℕ) × Contains earlier m × (module_place soc m ≡ Some p)
  pub low_le : (m : ℕ) → Contains earlier m → least.low ≤ low_of soc c m
  pub low_is : (least.low ≡ w + 1) ⊎ ((m : ℕ) × Contains earlier m × (low_of soc c m ≡ least.low))
  pub high : least.high ≡ least_high soc w c earlier

-- each stamp is less than this
abbrev pub AreOlder : (stamp : ℕ) → List ℕ → Type 0
AreOlder stamp marks = (p : ℕ) → slice_index marks p < stamp

-- the least area of each of `n` modules
pub record AreAreas (n : ℕ) (times : List ℕ) (c : Case) (areas : List ℕ) : Type 0 where
  pub long : length areas ≡ n
  pub each : (place : ℕ) → place < n → slice_index areas place ≡ area_by times (interval_at c place) place
