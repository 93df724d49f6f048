use Rattle.std.proofs.Common.{◌∙◌}
use Rattle.live_tests.proofs.profiles.profile_place.Goals as goal

pub returns : goal.returns
returns c = c.copied.ensures ∙ c.get.ensures.value ∙ c.requires c.args.id
