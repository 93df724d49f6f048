-- The wrappers of a module in a plan, with their longest paths.
use Rattle.std.specs.Prelude.{◌≡◌, ◌+◌, ◌*◌, ◌^◌, ◌≤◌, Bool, true, false, Option, Some, None, [], position, slice_get}
use Rattle.soc_model.specs.declared.Test.{Test}
use Rattle.soc_model.specs.Chips.{ModuleValue}
use Rattle.plan_model.specs.Cells.{IsProper, chain_cells}
use Rattle.plan_model.specs.Listing.{module_size}
use Rattle.plan_model.specs.Plans.{PlanValue, WrapperValue, of_first, si_of, so_of, wraps}
use Rattle.live_tests.specs.declared.wrapped.ModeWrapper.{ModeWrapper}
use Rattle.live_tests.specs.declared.wrapped.ModeWrappers.{ModeWrappers}

-- the first wrapper of a module in a mode, by its place, with its longest paths
pub record IsModeWrapper (plan : PlanValue) (m : ModuleValue) (scan : Bool) (w : ModeWrapper) : Type 0 where
  pub wrapper : WrapperValue
  pub at : slice_get plan.wrappers w.place ≡ Some wrapper
  pub mode : wrapper.scan ≡ scan
  pub first : of_first (wraps m.number scan) (λ (w : WrapperValue). w.chains) [] plan.wrappers ≡ wrapper.chains
  pub proper : IsProper m scan wrapper.chains
  pub si : w.si ≡ si_of (chain_cells m scan wrapper.chains)
  pub so : w.so ≡ so_of (chain_cells m scan wrapper.chains)
  pub short : 1 + w.si + w.so ≤ module_size m

-- the first wrapper of a module in a mode; none where the plan has none
abbrev pub MayBeWrapper : PlanValue → ModuleValue → Bool → Option ModeWrapper → Type 0
MayBeWrapper plan m scan (Some w) = IsModeWrapper plan m scan w
MayBeWrapper plan m scan None = position (wraps m.number scan) plan.wrappers ≡ None

-- those of both modes
abbrev pub AreModeWrappers : PlanValue → ModuleValue → ModeWrappers → Type 0
AreModeWrappers plan m w = MayBeWrapper plan m true w.scan × MayBeWrapper plan m false w.terminals

-- a live test whose cycles fit, of a module that has the wrapper for it among those of a plan
pub record IsWrappedTest (plan : PlanValue) (m : ModuleValue) (t : Test) (w : ModeWrappers) : Type 0 where
  pub live : 1 ≤ t.patterns
  pub few : t.patterns ≤ 10 ^ 18
  pub work : t.tam ≡ true → m.setup + t.patterns * module_size m ≤ 10 ^ 18
  pub wrappers : AreModeWrappers plan m w
  pub wrapped : t.tam ≡ true → position (wraps m.number t.scan) plan.wrappers ≡ None → ⊥
