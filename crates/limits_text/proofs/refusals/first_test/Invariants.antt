use Rattle.std.proofs.Common.{◌≡◌, map}
use Rattle.soc_model.specs.Chips.{soc_value, module_value, live_from, live_tests}
use Rattle.plan_model.specs.Views.{profile_value}
use Rattle.limits_text.specs.Passing.{first_passing}
use Rattle.limits_text.proofs.refusals.first_test.Given as goal

abbrev pub invariant-loop-module : goal.invariant-loop-module
invariant-loop-module l = first_passing (map profile_value l.profiles) l.most (live_from 0 (map module_value l.module-iterator)) ≡ first_passing (map profile_value l.profiles) l.most (live_tests (soc_value l.soc))
