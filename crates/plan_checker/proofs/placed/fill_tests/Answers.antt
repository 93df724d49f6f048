use Rattle.std.proofs.Common.{◌+◌, length, take, refl, sym, ap, ◌∙◌, arith}
use Rattle.std.proofs.lemmas.List.{take_all, length-take-le}
use Rattle.soc_model.specs.Chips.{soc_value, module_value}
use Rattle.plan_model.specs.Views.{plan_value}
use Rattle.live_tests.specs.Placed.{placed_tests}
use Rattle.live_tests.proofs.Placing.{module_more, modules_all, placed_are}
use Rattle.plan_checker.proofs.Filling.{module_at, module_room}
use Rattle.plan_checker.proofs.placed.fill_tests.Goals as goal

pub loop-place-init : goal.loop-place-init
loop-place-init c = record { within = omega arith; filled = sym (placed_are (soc_value c.args.from.now.soc.now) (plan_value c.args.from.now.plan.now)) }

pub fill_module-next-requires-clause-room : goal.fill_module-next-requires-clause-room
fill_module-next-requires-clause-room c =
    let soc = soc_value c.args.from.now.soc.now in
    let plan = plan_value c.args.from.now.plan.now in
    let room = module_room plan (take c.loop-place.next c.loop-place.placed) (placed_tests soc plan) c.loop-place.place soc.modules (module_value c.module_at.result.now) c.module_at.ensures c.loop-place.invariant.filled in
    omega (arith, room, length-take-le c.loop-place.next c.loop-place.placed c.loop-place.invariant.within, c.requires.room, c.loop-place.auto.placed)

pub wrappers_at-wrappers-requires : goal.wrappers_at-wrappers-requires
wrappers_at-wrappers-requires c = omega (arith, c.loop-place-test.true, c.module_count-place-end.ensures, c.requires.walked.long)

pub fill_module-next-requires-clause-wrappers : goal.fill_module-next-requires-clause-wrappers
fill_module-next-requires-clause-wrappers c = c.requires.walked.are c.loop-place.place (module_value c.module_at.result.now) c.wrappers_at-wrappers.result c.module_at.ensures c.wrappers_at-wrappers.ensures

pub fill_module-next-requires-clause-first : goal.fill_module-next-requires-clause-first
fill_module-next-requires-clause-first c =
    let soc = soc_value c.args.from.now.soc.now in
    let plan = plan_value c.args.from.now.plan.now in
    module_at plan (take c.loop-place.next c.loop-place.placed) (placed_tests soc plan) c.loop-place.place c.loop-place.next soc.modules (module_value c.module_at.result.now) c.module_at.ensures c.loop-place.invariant.filled (length-take-le c.loop-place.next c.loop-place.placed c.loop-place.invariant.within)

pub loop-place-preserved : goal.loop-place-preserved
loop-place-preserved c =
    let soc = soc_value c.args.from.now.soc.now in
    let plan = plan_value c.args.from.now.plan.now in
    let m = module_value c.module_at.result.now in
    let room = module_room plan (take c.loop-place.next c.loop-place.placed) (placed_tests soc plan) c.loop-place.place soc.modules m c.module_at.ensures c.loop-place.invariant.filled in
    record {
      within = omega (arith, room, length-take-le c.loop-place.next c.loop-place.placed c.loop-place.invariant.within, c.requires.room, c.loop-place.auto.placed, c.fill_module-next.ensures.count, c.fill_module-next.auto.placed);
      filled = module_more plan (take c.loop-place.next c.loop-place.placed) (take c.fill_module-next.result c.fill_module-next.new.placed) (placed_tests soc plan) c.loop-place.place (c.loop-place.place + 1) soc.modules m refl c.module_at.ensures c.fill_module-next.ensures.filled c.loop-place.invariant.filled;
    }

pub returns : goal.returns
returns c =
    let soc = soc_value c.args.from.now.soc.now in
    let plan = plan_value c.args.from.now.plan.now in
    let are = modules_all plan (take c.loop-place.next c.loop-place.placed) (placed_tests soc plan) c.loop-place.place soc.modules (omega arith) c.loop-place.invariant.filled in
    let long = length-take-le c.loop-place.next c.loop-place.placed c.loop-place.invariant.within in
    sym (take_all c.loop-place.next c.loop-place.placed (omega (arith, ap length are, long, c.requires.room, c.loop-place.auto.placed))) ∙ are
