use Rattle.soc_model.specs.Chips.{soc_value}
use Rattle.plan_model.specs.Plans.{planned}
use Rattle.plan_model.specs.Views.{plan_value}
use Rattle.fail_locate.proofs.KeptTests.{in_order}
use Rattle.fail_locate.proofs.locator.Locator.with_tests.Goals as goal

pub invariant_of-result : goal.invariant_of-result
invariant_of-result c = record {
  sound = c.requires.sound;
  good = c.requires.good;
  firsts_are = c.in_ok-firsts.ensures;
  wired = in_order (soc_value c.args.soc.now) (plan_value c.args.plan.now) (planned (soc_value c.args.soc.now) (plan_value c.args.plan.now)) _ c.in_order.result.items c.in_order.ensures.permutation c.requires.wired;
  order = c.in_order.ensures.order;
}
