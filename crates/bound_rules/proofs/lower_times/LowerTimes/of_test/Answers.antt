use Rattle.std.proofs.Common.{◌≡◌, Some, ap, subst, ◌∙◌, arith}
use Rattle.std.specs.Prelude.{slice_get}
use Rattle.soc_model.specs.Chips.{ModuleValue, module_value}
use Rattle.plan_model.specs.Bounds.{lower_time}
use Rattle.bound_rules.proofs.Modules.{time_by_sizes, work_of_one}
use Rattle.bound_rules.proofs.lower_times.LowerTimes.of_test.Goals as goal

pub time-requires-clause-work : goal.time-requires-clause-work
time-requires-clause-work c =
    let there : slice_get c.self.inside.«module».now.tests.items c.requires.there.0 ≡ Some c.args.test.now = ap (λ (m : ModuleValue). slice_get m.tests c.requires.there.0) c.self.view_is ∙ c.requires.there.1 in
    omega (arith, work_of_one c.self.inside.sizes c.self.inside.«module».now.tests.items c.requires.there.0 c.args.test.now there c.requires.live, c.self.invariant.work)

pub returns-clause-time : goal.returns-clause-time
returns-clause-time c =
    subst (λ (m : ModuleValue). c.time.result ≡ lower_time m c.args.test.now c.args.width) c.self.view_is
    (c.time.ensures.time ∙ rw c.self.invariant.sizes (time_by_sizes (module_value c.self.inside.«module».now) c.args.test.now c.args.width))

pub returns-clause-small : goal.returns-clause-small
returns-clause-small c =
    let there : slice_get c.self.inside.«module».now.tests.items c.requires.there.0 ≡ Some c.args.test.now = ap (λ (m : ModuleValue). slice_get m.tests c.requires.there.0) c.self.view_is ∙ c.requires.there.1 in
    omega (arith, c.time.ensures.small, work_of_one c.self.inside.sizes c.self.inside.«module».now.tests.items c.requires.there.0 c.args.test.now there c.requires.live, c.self.invariant.work)
