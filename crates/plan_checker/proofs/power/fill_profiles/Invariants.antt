use Rattle.plan_model.specs.Views.{limits_value}
use Rattle.plan_checker.proofs.Profiles.{AreProfilesFrom}
use Rattle.plan_checker.proofs.power.fill_profiles.Given as goal

abbrev pub invariant-loop-at : goal.invariant-loop-at
invariant-loop-at l = AreProfilesFrom (limits_value l.limits) l.placed l.at l.profiles
