use Rattle.std.proofs.Common.{◌<◌, length, sym, subst, Option, IfSome}
use Rattle.soc_model.specs.Chips.{soc_value}
use Rattle.plan_model.specs.Plans.{step_power}
use Rattle.plan_model.specs.Views.{limits_value}
use Rattle.live_tests.specs.declared.placed.PlacedTest.{PlacedTest}
use Rattle.report.specs.declared.holders.Hold.{Hold}
use Rattle.report.specs.Chains.{test_of}
use Rattle.report.proofs.Chained.{held_there}
use Rattle.report.proofs.chain.push_link.Goals as goal

pub returns-clause-there : goal.returns-clause-there
returns-clause-there c =
    let there = λ (t : PlacedTest). t.place < length (soc_value c.args.soc.now).modules in
    subst (λ (o : Option PlacedTest). IfSome o there) (sym c.test_of.ensures)
    (subst (λ (h : Option (PlacedTest × Hold)). IfSome (test_of h) there) (sym c.held-held.ensures)
    (held_there there (soc_value c.args.soc.now) (limits_value c.args.limits.now) (λ r. step_power r 0 c.args.steps.now) c.args.tests.now c.args.test.now c.requires.places))
