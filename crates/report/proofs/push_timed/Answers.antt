use Rattle.std.proofs.Common.{sum, ap, sym, subst, arith}
use Rattle.soc_model.specs.Chips.{soc_value}
use Rattle.plan_model.specs.Views.{limits_value, plan_value}
use Rattle.plan_model.proofs.PowerAndAreaBounds.{widths_fit}
use Rattle.width_table.specs.Tables.{TableValue}
use Rattle.report.specs.PlacedTests.{AreTests}
use Rattle.report.proofs.GoodPlans.{are_tests}
use Rattle.report.proofs.push_timed.Goals as goal

pub push_modules-pushed-requires-clause-few : goal.push_modules-pushed-requires-clause-few
push_modules-pushed-requires-clause-few c =
    omega (arith, widths_fit (soc_value c.args.soc.now) (limits_value c.args.limits.now) (plan_value c.args.plan.now) c.requires.good, ap sum c.requires.widths, ap (λ (t : TableValue). t.wires) c.in_ok-table.ensures.value)

pub push_modules-pushed-requires-clause-short : goal.push_modules-pushed-requires-clause-short
push_modules-pushed-requires-clause-short c =
    let plan = plan_value c.args.plan.now in
    let are : AreTests plan.cycles c.args.tests.now = subst (AreTests plan.cycles) (sym c.requires.tests) (are_tests (soc_value c.args.soc.now) (limits_value c.args.limits.now) plan c.requires.sound c.requires.good) in
    are.short
