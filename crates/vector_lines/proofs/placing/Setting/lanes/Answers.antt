use Rattle.std.proofs.Common.{◌≡◌, Some, length, slice_get, subst, ap, arith}
use Rattle.std.proofs.lemmas.List.{length-map}
use Rattle.soc_model.specs.Chips.{module_value, soc_value}
use Rattle.live_tests.specs.PlacedPlans.{PlacedPlanValue}
use Rattle.vector_lines.specs.Placed.{IsPlacedLane}
use Rattle.vector_lines.proofs.PlacedTests.{planned_from, no_modules, modules_more, all_modules}
use Rattle.vector_lines.proofs.placing.Setting.lanes.Goals as goal

pub loop-place-init : goal.loop-place-init
loop-place-init g c = no_modules (IsPlacedLane (g.C.Contents.keys c.args.contents.now) c.args.self.now.placed.now.soc c.args.self.now.placed.now.plan) c.args.self.now.placed.now.plan
    c.args.self.now.placed.now.soc.modules c.new-lanes.ensures.items

pub loop-place-preserved : goal.loop-place-preserved
loop-place-preserved g c =
    modules_more (IsPlacedLane (g.C.Contents.keys c.args.contents.now) c.args.self.now.placed.now.soc c.args.self.now.placed.now.plan) c.args.self.now.placed.now.plan
    c.args.self.now.placed.now.soc.modules c.loop-place.place (subst (λ (v : PlacedPlanValue). slice_get v.soc.modules c.loop-place.place ≡ Some (module_value c.module_at.result.now)) c.placed.view_is c.module_at.ensures)
    (c.in_ok-push_module.ensures (planned_from c.args.self.now.placed.now.plan c.args.self.now.placed.now.soc.modules c.loop-place.place) c.loop-place.invariant)

pub returns : goal.returns
returns g c =
    let many : length (soc_value c.placed.inside.soc.now).modules ≡ length c.args.self.now.placed.now.soc.modules = ap (λ (v : PlacedPlanValue). length v.soc.modules) c.placed.view_is in
    let same_many : length (soc_value c.placed.inside.soc.now).modules ≡ length c.placed.inside.soc.now.modules.entries = length-map c.placed.inside.soc.now.modules.entries _ in
    all_modules (IsPlacedLane (g.C.Contents.keys c.args.contents.now) c.args.self.now.placed.now.soc c.args.self.now.placed.now.plan) c.args.self.now.placed.now.plan c.args.self.now.placed.now.soc c.loop-place.place
    (omega (arith, c.loop-place-test.false, c.len-place-end.ensures.len, same_many, many)) c.loop-place.invariant
