use Rattle.std.proofs.Common.{◌∙◌, sym}
use Rattle.soc_model.specs.Chips.{soc_value}
use Rattle.plan_model.specs.Views.{plan_value}
use Rattle.plan_checker.proofs.Filling.{placed_length}
use Rattle.plan_checker.proofs.check.check_all.Goals as goal

pub check_rules-requires-clause-tests_fit : goal.check_rules-requires-clause-tests_fit
check_rules-requires-clause-tests_fit c = c.requires.room.placed.tests ∙ sym (placed_length (soc_value c.args.soc.now) (plan_value c.args.plan.now))
