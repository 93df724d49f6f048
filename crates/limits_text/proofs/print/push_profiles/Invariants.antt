use Rattle.std.proofs.Common.{◌≡◌, ◌++◌, map, take, flat_map}
use Rattle.plan_model.specs.Views.{profile_value}
use Rattle.limits_text.specs.Texts.{profile_line}
use Rattle.limits_text.proofs.print.push_profiles.Given as goal

abbrev pub invariant-loop-profile : goal.invariant-loop-profile
invariant-loop-profile l = l.to.items ≡ l.initial.to.items ++ flat_map profile_line (map profile_value (take l.profile-index l.profiles))
