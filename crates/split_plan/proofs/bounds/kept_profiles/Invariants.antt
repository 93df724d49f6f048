use Rattle.std.proofs.Common.{◌≡◌, map, take}
use Rattle.plan_model.specs.Views.{profile_value}
use Rattle.split_plan.specs.Parts.{profiles_of}
use Rattle.split_plan.proofs.bounds.kept_profiles.Given as goal

abbrev pub invariant-loop-profile : goal.invariant-loop-profile
invariant-loop-profile l = map profile_value l.kept.items ≡ profiles_of l.cuts (map profile_value (take l.profile-index l.profiles))
