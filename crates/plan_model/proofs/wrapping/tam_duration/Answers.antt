use Rattle.std.proofs.Common.{◌^◌, arith}
use Rattle.soc_model.specs.Chips.{module_value}
use Rattle.plan_model.specs.Listing.{module_size}
use Rattle.plan_model.proofs.ChainLengths.{lengths_within, time_within}
use Rattle.plan_model.proofs.wrapping.tam_duration.Goals as goal

pub closed_time-requires-clause-bounded : goal.closed_time-requires-clause-bounded
closed_time-requires-clause-bounded c =
    let w = lengths_within (module_value c.args.«module».now) c.args.wrapper.now.scan c.args.wrapper.now.chains.items c.requires.proper in
    time_within c.args.«module».now.setup c.lengths-si.result.0 c.lengths-si.result.1 c.args.test.now.patterns (module_size (module_value c.args.«module».now)) (10 ^ 18) c.requires.live (omega (arith, w.0, w.1, c.lengths-si.ensures.si, c.lengths-si.ensures.so)) c.requires.work
