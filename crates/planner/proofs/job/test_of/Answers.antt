use Rattle.live_tests.proofs.Placing.{wrapped_test}
use Rattle.planner.specs.Sources.{chip_of, plan_of}
use Rattle.planner.proofs.job.test_of.Goals as goal

pub cycles-requires : goal.cycles-requires
cycles-requires c =
    let source = c.args.parts.now.source.now in
    (plan_of source, wrapped_test (chip_of source) (plan_of source) c.requires.parts.sound c.requires.parts.wrapped.1 c.args.shared.now.place c.requires.test_there.0 _ c.args.test.now c.args.shared.now.wrappers c.requires.shared.there c.requires.test_there.1 c.requires.is_live c.requires.shared.wrappers)

pub returns : goal.returns
returns c = rw (c.in_ok-power.ensures, c.requires.shared.parent, c.bus_over.ensures, c.requires.shared.bus, c.cycles.ensures.cycles (plan_of c.args.parts.now.source.now) c.requires.shared.wrappers)
