use Rattle.std.proofs.Common.{◌∙◌, ap, refl, arith}
use Rattle.soc_model.specs.Chips.{soc_value, module_value}
use Rattle.plan_model.specs.Plans.{PlanValue}
use Rattle.plan_model.specs.Rules.{Wrappers, bare_limits}
use Rattle.live_tests.specs.Placed.{bus_over}
use Rattle.live_tests.proofs.Placing.{start_is, end_is, ends_within, test_is, wrapped_test}
use Rattle.live_tests.proofs.placed.PlannedChip.test.Goals as goal

pub cycles-length-requires : goal.cycles-length-requires
cycles-length-requires c =
    let plan = c.args.self.now.index.now in
    (plan, wrapped_test (soc_value c.args.self.now.soc.now) plan c.requires.sound (c.requires.good Wrappers).1 c.args.place c.requires.test_there.0 (module_value c.args.«module».now) c.args.test.now c.args.wrappers.now c.requires.module_there c.requires.test_there.1 c.requires.live c.requires.wrappers)

pub placed_test-requires : goal.placed_test-requires
placed_test-requires c =
    let plan = c.args.self.now.index.now in
    let m = module_value c.args.«module».now in
    let begins = start_is plan c.args.place m c.args.test.now c.start-start.result c.start-start.ensures in
    let long = c.cycles-length.ensures.cycles plan c.requires.wrappers in
    let end = end_is plan c.args.place m c.args.test.now c.start-start.result c.cycles-length.result begins long in
    let within = ends_within (soc_value c.args.self.now.soc.now) (bare_limits plan) plan c.requires.good c.args.place c.requires.test_there.0 m c.args.test.now c.requires.module_there c.requires.test_there.1 c.requires.live in
    omega (arith, end, within, c.plan_cycles-cycles.ensures, ap (λ (p : PlanValue). p.cycles) c.plan.ensures, c.plan_cycles-cycles.type_inv)

pub returns : goal.returns
returns c =
    let plan = c.args.self.now.index.now in
    let m = module_value c.args.«module».now in
    let begins = start_is plan c.args.place m c.args.test.now c.start-start.result c.start-start.ensures in
    let long = c.cycles-length.ensures.cycles plan c.requires.wrappers in
    c.placed_test.ensures ∙ test_is plan c.args.place m c.args.test.now c.bus-bus.result c.start-start.result c.cycles-length.result (bus_over c.args.test.now.tam c.bus-bus.result) c.bus-bus.ensures refl begins long
