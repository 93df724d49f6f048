-- What the tests of a module share in a job.
use Rattle.std.specs.Prelude.{◌≡◌, Some, slice_get}
use Rattle.soc_model.specs.Chips.{ModuleValue, SocValue, parent_place}
use Rattle.plan_model.specs.Plans.{PlanValue, bus_place}
use Rattle.live_tests.specs.Wrapped.{AreModeWrappers}
use Rattle.planner.specs.declared.job.ModulePlace.{ModulePlace}

-- the place of a module, with those of its parent and its bus, and its wrappers
pub record IsShared (soc : SocValue) (plan : PlanValue) (m : ModuleValue) (s : ModulePlace) : Type 0 where
  pub there : slice_get soc.modules s.place ≡ Some m
  pub parent : s.parent ≡ parent_place soc.modules s.place
  pub bus : s.bus ≡ bus_place m.number 0 plan.buses
  pub wrappers : AreModeWrappers plan m s.wrappers
