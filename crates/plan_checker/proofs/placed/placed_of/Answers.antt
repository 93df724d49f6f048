use Rattle.std.proofs.Common.{◌∙◌, refl}
use Rattle.std.proofs.lemmas.Bool.{le-leb}
use Rattle.std.proofs.lemmas.Option.{slice_get_within, get_or_from_slice_get}
use Rattle.soc_model.specs.Chips.{soc_value, module_value}
use Rattle.plan_model.specs.Views.{plan_value}
use Rattle.live_tests.specs.Placed.{bus_over}
use Rattle.live_tests.proofs.Placing.{start_is, test_is, wrapped_test}
use Rattle.plan_model.specs.Rules.{live_ids}
use Rattle.plan_checker.proofs.Filling.{called}
use Rattle.plan_checker.proofs.placed.placed_of.Goals as goal

pub bus_at-bus-requires : goal.bus_at-bus-requires
bus_at-bus-requires c = slice_get_within c.args.from.now.buses.now c.args.place _ (c.requires.placing.buses_are c.args.place (module_value c.args.«module».now) c.requires.there)

pub start_at-start-requires-clause-live : goal.start_at-start-requires-clause-live
start_at-start-requires-clause-live c = slice_get_within (live_ids (soc_value c.args.from.now.soc.now)) c.args.at _ (called (soc_value c.args.from.now.soc.now) (plan_value c.args.from.now.plan.now) c.args.at c.args.place (module_value c.args.«module».now) c.args.test.now c.requires.called)

pub cycles-length-requires : goal.cycles-length-requires
cycles-length-requires c =
    let plan = plan_value c.args.from.now.plan.now in
    (plan, wrapped_test (soc_value c.args.from.now.soc.now) plan c.requires.placing.sound c.requires.placing.wrapped c.args.place c.requires.of_module.0 (module_value c.args.«module».now) c.args.test.now c.args.wrappers.now c.requires.there c.requires.of_module.1 (le-leb 1 c.args.test.now.patterns c.requires.live) c.requires.wrappers)

pub returns : goal.returns
returns c =
    let plan = plan_value c.args.from.now.plan.now in
    let m = module_value c.args.«module».now in
    let bus = c.bus_at-bus.ensures ∙ get_or_from_slice_get c.args.from.now.buses.now c.args.place _ 0 (c.requires.placing.buses_are c.args.place m c.requires.there) in
    let begins = start_is plan c.args.place m c.args.test.now c.start_at-start.result (c.start_at-start.ensures.start _ (called (soc_value c.args.from.now.soc.now) plan c.args.at c.args.place m c.args.test.now c.requires.called)) in
    c.placed_test.ensures ∙ test_is plan c.args.place m c.args.test.now c.bus_at-bus.result c.start_at-start.result c.cycles-length.result (bus_over c.args.test.now.tam c.bus_at-bus.result) bus refl begins (c.cycles-length.ensures.cycles plan c.requires.wrappers)
