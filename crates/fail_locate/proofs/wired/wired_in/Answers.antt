use Rattle.std.proofs.Common.{subst}
use Rattle.std.proofs.lemmas.Bool.{leb-true}
use Rattle.soc_model.specs.Chips.{module_value}
use Rattle.soc_model.specs.SoundChips.{IsSoundChip}
use Rattle.plan_model.specs.Plans.{planned_test}
use Rattle.plan_model.proofs.SoundChips.{tam_work-le}
use Rattle.live_tests.specs.PlacedPlans.{PlacedPlanValue}
use Rattle.fail_locate.proofs.PlacedWired.{bus_is, wired_is}
use Rattle.fail_locate.proofs.wired.wired_in.Goals as goal

pub bus_of-requires : goal.bus_of-requires
bus_of-requires c =
    let m = module_value c.args.«module».now in
    ((planned_test c.args.placed.now.plan c.args.place m c.args.test.now).bus, bus_is c.args.placed.now.plan c.args.place m c.args.test.now c.test-run.result c.requires.tam c.test-run.ensures)

pub returns : goal.returns
returns c =
    let m = module_value c.args.«module».now in
    let sound = subst (λ (p : PlacedPlanValue). IsSoundChip p.soc) c.placed.view_is c.placed.invariant.sound in
    let work = tam_work-le c.args.placed.now.soc sound c.args.place c.requires.test_there.0 m c.args.test.now c.requires.module_there c.requires.test_there.1 c.requires.live c.requires.tam in
    wired_is c.args.placed.now.soc c.args.placed.now.plan c.args.place m c.args.test.now c.args.wrapper c.test-run.result c.bus_of.result c.requires.module_there (leb-true 1 c.args.test.now.patterns c.requires.live) c.requires.tam work c.requires.wrapper
    c.test-run.ensures c.bus_of.ensures
