use Rattle.std.proofs.Common.{◌≡◌, map, take}
use Rattle.plan_model.specs.Views.{profile_value}
use Rattle.split_plan.specs.Steps.{profiled}
use Rattle.split_plan.proofs.chips.profile_names.Given as goal

abbrev pub invariant-loop-profile : goal.invariant-loop-profile
invariant-loop-profile l = l.names.items ≡ profiled (map profile_value (take l.profile-index l.profiles))
