use Rattle.soc_model.specs.Chips.{module_value}
use Rattle.controls.proofs.Placed.{long_phases, no_phases}
use Rattle.controls.proofs.placing.phases_of.Goals as goal

pub unreachable-requires : goal.unreachable-requires
unreachable-requires c = c.requires.1.wrapped c.if-not-test.false (c.in-None.ensures c.requires.0 (module_value c.args.«module».now) c.requires.1.wrappers)

pub returns-then-not-test : goal.returns-then-not-test
returns-then-not-test c = λ plan are. no_phases plan (module_value c.args.«module».now) c.args.test.now c.if-not-test.true

pub returns : goal.returns
returns c = λ plan are. long_phases plan (module_value c.args.«module».now) c.args.test.now c.if-not-test.false (c.in-Some.ensures plan (module_value c.args.«module».now) are)
