-- Rankings of the buses of a plan by their widths, and the plans of a case.
use Rattle.std.specs.Prelude.{◌≡◌, ℕ, ◌+◌, ◌<◌, ◌≤◌, true, Some, List, length, slice_get, slice_index}
use Rattle.std.specs.List.{range_with_len}
use Rattle.std.specs.List.Sorted.{IsPermutation}
use Rattle.soc_model.specs.Chips.{ModuleValue, SocValue}
use Rattle.soc_model.specs.Modes.{has_tam}
use Rattle.plan_model.specs.Plans.{PlanValue, bus_place, widths}
use Rattle.plan_model.specs.Certificates.{on}
use Rattle.leaf_bounds.specs.Cases.{Case, known_ranks, low_at, high_at}

-- the width of the bus of a rank, in wires; a rank past the end has none
abbrev pub rank_width : PlanValue → List ℕ → ℕ → ℕ
rank_width plan ranking rank = on (slice_get ranking rank) (slice_index (widths plan))

-- the places of all buses, each once, none wider than the one before it
pub record IsRanking (plan : PlanValue) (ranking : List ℕ) : Type 0 where
  pub all : IsPermutation (range_with_len 0 (length plan.buses)) ranking
  pub falls : (rank : ℕ) → rank_width plan ranking (rank + 1) ≤ rank_width plan ranking rank

-- the module is on the bus of a known rank that it may be on, or on a later one where it may be on the rest
pub record IsOnRank (plan : PlanValue) (ranking : List ℕ) (c : Case) (place : ℕ) (m : ModuleValue) : Type 0 where
  pub rank : ℕ
  pub there : slice_get ranking rank ≡ Some (bus_place m.number 0 plan.buses)
  pub may : rank < known_ranks c → c.may place rank ≡ true
  pub rest : known_ranks c ≤ rank → c.may_rest place ≡ true

-- a plan with a ranking is in the case
pub record IsInCase (soc : SocValue) (plan : PlanValue) (ranking : List ℕ) (c : Case) : Type 0 where
  pub low : (rank : ℕ) → rank < known_ranks c → low_at c rank ≤ rank_width plan ranking rank
  pub high : (rank : ℕ) → rank < known_ranks c → rank_width plan ranking rank ≤ high_at c rank
  pub modules : (place : ℕ) (m : ModuleValue) → slice_get soc.modules place ≡ Some m → has_tam m ≡ true →
      IsOnRank plan ranking c place m
