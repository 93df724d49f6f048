use Rattle.std.proofs.Common.{◌^◌, ◌∙◌}
use Rattle.soc_model.specs.Chips.{module_value}
use Rattle.plan_model.specs.Listing.{module_size}
use Rattle.plan_model.proofs.ChainLengths.{time_within}
use Rattle.live_tests.proofs.Placing.{time_is}
use Rattle.live_tests.proofs.wrapped.ModeWrappers.cycles.Goals as goal

pub closed_time-requires-clause-patterns : goal.closed_time-requires-clause-patterns
closed_time-requires-clause-patterns c = c.requires.1.live

pub closed_time-requires-clause-bounded : goal.closed_time-requires-clause-bounded
closed_time-requires-clause-bounded c =
    let is = c.in-Some.ensures c.requires.0 (module_value c.args.«module».now) c.requires.1.wrappers in
    time_within c.args.«module».now.setup c.in-Some.long.si c.in-Some.long.so c.args.test.now.patterns (module_size (module_value c.args.«module».now)) (10 ^ 18) c.requires.1.live is.short (c.requires.1.work c.if-not-test.false)

pub unreachable-requires : goal.unreachable-requires
unreachable-requires c = c.requires.1.wrapped c.if-not-test.false (c.in-None.ensures c.requires.0 (module_value c.args.«module».now) c.requires.1.wrappers)

pub returns-clause-cycles : goal.returns-clause-cycles
returns-clause-cycles c = λ plan are. c.closed_time.ensures.time ∙ time_is plan (module_value c.args.«module».now) c.args.test.now c.in-Some.long c.if-not-test.false (c.in-Some.ensures plan (module_value c.args.«module».now) are)

pub returns-then-not-test-clause-small : goal.returns-then-not-test-clause-small
returns-then-not-test-clause-small c = c.requires.1.few
