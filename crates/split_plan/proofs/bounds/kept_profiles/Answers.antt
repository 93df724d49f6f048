use Rattle.std.proofs.Common.{◌∙◌, List, map, ap}
use Rattle.std.proofs.lemmas.List.{take_all}
use Rattle.plan_model.specs.declared.Profile.{Profile}
use Rattle.plan_model.specs.Views.{profile_value}
use Rattle.split_plan.specs.Parts.{profiles_of}
use Rattle.split_plan.proofs.bounds.kept_profiles.Goals as goal

pub returns : goal.returns
returns c =
    c.loop-profile.invariant ∙ ap (λ (ps : List Profile). profiles_of c.args.cuts.now (map profile_value ps)) (take_all c.loop-profile.profile-index c.args.profiles.now c.loop-profile-test.false)
