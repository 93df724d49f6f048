use Rattle.std.proofs.Common.{◌≡◌, ◌∙◌, Bool, ap, sym, refl, subst, arith}
use Rattle.soc_model.specs.Chips.{module_value}
use Rattle.soc_model.specs.SoundChips.{IsSoundChip}
use Rattle.plan_model.specs.Cells.{IsProper}
use Rattle.plan_model.specs.Plans.{WrapperValue, si_of, so_of}
use Rattle.plan_model.specs.Rules.{IsGoodAlone, Wrappers, bare_limits}
use Rattle.plan_model.specs.Views.{wrapper_value}
use Rattle.plan_model.proofs.SoundChips.{module_size-le}
use Rattle.live_tests.specs.PlacedPlans.{PlacedPlanValue}
use Rattle.live_tests.specs.Wrapped.{IsModeWrapper}
use Rattle.live_tests.proofs.Placing.{always_wrapped}
use Rattle.vector_lines.proofs.PlacedLanes.{wrapper_within, found_wrapper, mode_cells, own_paths, over_wires, bus_there, wired_placed}
use Rattle.vector_lines.proofs.placing.Setting.wired_test.Goals as goal

pub unreachable-requires : goal.unreachable-requires
unreachable-requires g c =
    let good : IsGoodAlone c.args.self.now.placed.now.soc c.args.self.now.placed.now.plan = subst (λ (v : PlacedPlanValue). IsGoodAlone v.soc v.plan) c.whole.view_is c.whole.invariant.good in
    let plan = c.args.self.now.placed.now.plan in
    let m = module_value c.args.wrapped.now.core.«module».now in
    let over = over_wires c.args.wrapped.now.core.place m c.args.wrapped.now.test.now plan c.requires.placed c.requires.over in
    always_wrapped c.args.self.now.placed.now.soc plan (good Wrappers).1 c.args.wrapped.now.core.place c.args.wrapped.now.at m c.args.wrapped.now.test.now c.requires.module_there c.requires.test_there c.requires.live over.0 (c.in_default.ensures plan m c.requires.wrappers)

pub index-wrapper-requires : goal.index-wrapper-requires
index-wrapper-requires g c =
    let plan = c.args.self.now.placed.now.plan in
    let m = module_value c.args.wrapped.now.core.«module».now in
    let is : IsModeWrapper plan m c.args.wrapped.now.test.now.scan c.in-Some.long = c.in-Some.ensures plan m c.requires.wrappers in
    omega (arith, wrapper_within c.whole.inside.plan.now.wrappers.items (sym (ap (λ (v : PlacedPlanValue). v.plan.wrappers) c.whole.view_is)) is, c.whole.inside.plan.now.wrappers.ok.0)

pub wrapped_paths-requires-clause-proper : goal.wrapped_paths-requires-clause-proper
wrapped_paths-requires-clause-proper g c =
    let plan = c.args.self.now.placed.now.plan in
    let m = module_value c.args.wrapped.now.core.«module».now in
    let is : IsModeWrapper plan m c.args.wrapped.now.test.now.scan c.in-Some.long = c.in-Some.ensures plan m c.requires.wrappers in
    let same : is.wrapper ≡ wrapper_value c.index-wrapper.result.now = found_wrapper c.whole.inside.plan.now.wrappers.items (sym (ap (λ (v : PlacedPlanValue). v.plan.wrappers) c.whole.view_is)) is c.index-wrapper.ensures in
    subst (λ (v : WrapperValue). IsProper m v.scan v.chains) same (subst (λ (scan : Bool). IsProper m scan is.wrapper.chains) (sym is.mode) is.proper)

pub wrapped_paths-requires-clause-small : goal.wrapped_paths-requires-clause-small
wrapped_paths-requires-clause-small g c =
    let sound : IsSoundChip c.args.self.now.placed.now.soc = subst (λ (v : PlacedPlanValue). IsSoundChip v.soc) c.whole.view_is c.whole.invariant.sound in
    module_size-le c.args.self.now.placed.now.soc sound c.args.wrapped.now.core.place (module_value c.args.wrapped.now.core.«module».now) c.requires.module_there

pub bus_wires-first_wire-requires-clause-bus : goal.bus_wires-first_wire-requires-clause-bus
bus_wires-first_wire-requires-clause-bus g c =
    let good : IsGoodAlone c.args.self.now.placed.now.soc c.args.self.now.placed.now.plan = subst (λ (v : PlacedPlanValue). IsGoodAlone v.soc v.plan) c.whole.view_is c.whole.invariant.good in
    let plan = c.args.self.now.placed.now.plan in
    let m = module_value c.args.wrapped.now.core.«module».now in
    let over = over_wires c.args.wrapped.now.core.place m c.args.wrapped.now.test.now plan c.requires.placed c.requires.over in
    omega (arith, over.1, bus_there c.args.self.now.placed.now.soc plan c.args.wrapped.now.core.place c.args.wrapped.now.at c.requires.module_there c.requires.test_there c.requires.live (bare_limits plan) good over.0)

pub returns : goal.returns
returns g c =
    let good : IsGoodAlone c.args.self.now.placed.now.soc c.args.self.now.placed.now.plan = subst (λ (v : PlacedPlanValue). IsGoodAlone v.soc v.plan) c.whole.view_is c.whole.invariant.good in
    let sound : IsSoundChip c.args.self.now.placed.now.soc = subst (λ (v : PlacedPlanValue). IsSoundChip v.soc) c.whole.view_is c.whole.invariant.sound in
    let soc = c.args.self.now.placed.now.soc in
    let plan = c.args.self.now.placed.now.plan in
    let m = module_value c.args.wrapped.now.core.«module».now in
    let over = over_wires c.args.wrapped.now.core.place m c.args.wrapped.now.test.now plan c.requires.placed c.requires.over in
    let is : IsModeWrapper plan m c.args.wrapped.now.test.now.scan c.in-Some.long = c.in-Some.ensures plan m c.requires.wrappers in
    let same : is.wrapper ≡ wrapper_value c.index-wrapper.result.now = found_wrapper c.whole.inside.plan.now.wrappers.items (sym (ap (λ (v : PlacedPlanValue). v.plan.wrappers) c.whole.view_is)) is c.index-wrapper.ensures in
    let cells = mode_cells c.args.wrapped.now.test.now over.0 is in
    wired_placed soc plan c.args.wrapped.now.core.place c.args.wrapped.now.at c.requires.module_there c.requires.test_there c.requires.live (g.C.Contents.keys c.args.contents.now) _ c.requires.placed sound
    (bare_limits plan) good c.requires.over (record {
      tam = refl;
      key = c.key.ensures;
      start_is = refl;
      ends = refl;
      setup = refl;
      si = is.si ∙ ap si_of (sym cells);
      so = is.so ∙ ap so_of (sym cells);
      patterns = refl;
      first_wire = c.bus_wires-first_wire.ensures.first;
      width = c.bus_wires-first_wire.ensures.width;
      paths = own_paths c.args.wrapped.now.test.now over.0 is c.index-wrapper.result.now same c.in_ok-paths.ensures;
    })
