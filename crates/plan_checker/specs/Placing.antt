-- What a plan says of its tests once its buses, wrappers and starts have passed.
use Rattle.std.specs.Prelude.{◌≡◌, ℕ, Bool, List, map}
use Rattle.soc_model.specs.declared.Soc.{Soc}
use Rattle.plan_model.specs.declared.Plan.{Plan}
use Rattle.soc_model.specs.Chips.{soc_value}
use Rattle.plan_model.specs.Views.{plan_value}
use Rattle.plan_model.specs.Rules.{Each, HasStart, HasWrapper, HasProperCells, live_ids, used_pairs, pair_of}
use Rattle.soc_model.specs.SoundChips.{IsSoundChip}
use Rattle.indexmap.specs.IndexSet.{keys}
use Rattle.plan_checker.specs.declared.placed.PlanLookups.{PlanLookups}
use Rattle.plan_checker.specs.Listed.{AreBuses, StartEarly}
use Rattle.plan_checker.specs.Starting.{AreStarts}

-- the chip and the plan, the starts at the places of the live tests, the pairs of a module and a mode in the order of the wrappers,
-- and the buses
pub record IsPlacedBy (soc : Soc) (plan : Plan) (starts : List ℕ) (pairs : List (ℕ × Bool)) (buses : List ℕ) : Type 0 where
  pub sound : IsSoundChip (soc_value soc)
  pub wrapped : Each (HasWrapper (plan_value plan)) (used_pairs (soc_value soc))
  pub proper : Each (HasProperCells (soc_value soc)) (plan_value plan).wrappers
  pub early : StartEarly plan.starts.items
  pub started : Each (HasStart (plan_value plan)) (live_ids (soc_value soc))
  pub starts_are : AreStarts (live_ids (soc_value soc)) plan.starts.items starts
  pub pairs_are : pairs ≡ map pair_of (plan_value plan).wrappers
  pub buses_are : AreBuses (soc_value soc) (plan_value plan) buses

-- what the code has of the plan suits it
abbrev pub IsPlacing : PlanLookups → Type 0
IsPlacing from = IsPlacedBy from.soc.now from.plan.now from.starts.now (keys from.wrappers.now) from.buses.now
