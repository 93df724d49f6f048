use Rattle.plan_model.specs.Views.{limits_value}
use Rattle.split_plan.proofs.Making.{profiles_differ}
use Rattle.split_plan.proofs.chips.cut_chip.Goals as goal

pub index_of_profiles-requires : goal.index_of_profiles-requires
index_of_profiles-requires c = profiles_differ (limits_value c.args.limits.now).profiles c.requires.limits.one_profile
