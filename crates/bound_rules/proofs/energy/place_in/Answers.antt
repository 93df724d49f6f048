use Rattle.std.proofs.Common.{rules}
use Rattle.plan_model.specs.ProfilePlaces.{FindProfiles}
use Rattle.bound_rules.proofs.energy.place_in.Goals as goal

pub returns-in-Some : goal.returns-in-Some
returns-in-Some c =
    let found : FindProfiles c.in-Some.places.now.entries c.args.profiles.now.list.now = rw c.in-Some.is at c.requires in
    let here = found c.args.id in
    search rules
