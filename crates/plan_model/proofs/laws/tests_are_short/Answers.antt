use Rattle.plan_model.proofs.ShortTests.{short_test, short_planned, early_end, any_early_end}
use Rattle.plan_model.proofs.laws.tests_are_short.Goals as goal

pub returns : goal.returns
returns c = record { work = short_test; lengths = short_planned; ends = early_end; any_ends = any_early_end }
