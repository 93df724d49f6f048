use Rattle.std.proofs.Common.{arith}
use Rattle.soc_model.specs.Chips.{module_value}
use Rattle.plan_model.proofs.ChainLengths.{lengths_within}
use Rattle.live_tests.proofs.wrapped.walked.Goals as goal

pub returns-clause-short : goal.returns-clause-short
returns-clause-short c =
    let within = lengths_within (module_value c.args.«module».now) c.args.wrapper.now.scan c.args.wrapper.now.chains.items c.requires.proper in
    omega (arith, within.0, within.1, c.lengths-si.ensures.si, c.lengths-si.ensures.so)
