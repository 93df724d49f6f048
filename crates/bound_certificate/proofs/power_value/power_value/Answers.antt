use Rattle.bound_certificate.proofs.NamedProfiles.{names_differ}
use Rattle.bound_certificate.proofs.power_value.power_value.Goals as goal

pub fill_places-requires-clause-differ : goal.fill_places-requires-clause-differ
fill_places-requires-clause-differ c = rw c.deref.ensures.value (names_differ c.args.limits.now.profiles.items c.requires.limits.one_profile)
