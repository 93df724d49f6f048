use Rattle.std.proofs.Common.{◌≤◌, ◌^◌, ◌∙◌, arith}
use Rattle.soc_model.specs.Chips.{module_value}
use Rattle.plan_model.proofs.LowerTimes.{least_over_wires, least_self_test}
use Rattle.bound_rules.specs.Sizes.{work_by}
use Rattle.bound_rules.proofs.Works.{live_patterns}
use Rattle.bound_rules.proofs.Modules.{module_size-le_work, time_by_sizes, work_by_sizes}
use Rattle.bound_rules.proofs.lower_time.Goals as goal

pub of-requires : goal.of-requires
of-requires c = omega (arith, module_size-le_work (module_value c.args.module.now) c.args.test.now (live_patterns c.args.test.now c.requires.live), c.requires.work)

pub time-requires-clause-work : goal.time-requires-clause-work
time-requires-clause-work c = rw (c.of.ensures.sizes, work_by_sizes (module_value c.args.module.now) c.args.test.now) c.requires.work

pub returns-clause-time : goal.returns-clause-time
returns-clause-time c = c.time.ensures.time ∙ rw c.of.ensures.sizes (time_by_sizes (module_value c.args.module.now) c.args.test.now c.args.width)

pub returns-clause-small : goal.returns-clause-small
returns-clause-small c =
    let within : work_by c.of.result c.args.test.now ≤ 10 ^ 18 = rw (c.of.ensures.sizes, work_by_sizes (module_value c.args.module.now) c.args.test.now) c.requires.work in
    omega (arith, c.time.ensures.small)

pub returns-clause-over_wires : goal.returns-clause-over_wires
returns-clause-over_wires c = λ chains tam some few proper.
    rw (returns-clause-time c) (least_over_wires (module_value c.args.module.now) c.args.test.now chains c.args.width tam (live_patterns c.args.test.now c.requires.live) some few proper)

pub returns-clause-self_tests : goal.returns-clause-self_tests
returns-clause-self_tests c = λ self. returns-clause-time c ∙ least_self_test (module_value c.args.module.now) c.args.test.now c.args.width self
