use Rattle.std.proofs.Common.{◌∙◌, List, map, ap}
use Rattle.std.proofs.lemmas.List.{take_all}
use Rattle.plan_model.specs.declared.Profile.{Profile}
use Rattle.plan_model.specs.Views.{profile_value}
use Rattle.split_plan.specs.Steps.{profiled}
use Rattle.split_plan.proofs.chips.profile_names.Goals as goal

pub returns : goal.returns
returns c =
    c.loop-profile.invariant ∙ ap (λ (ps : List Profile). profiled (map profile_value ps)) (take_all c.loop-profile.profile-index c.args.profiles.now c.loop-profile-test.false)
