-- Profiles that are found by the names of their tests, where their places are at hand.
use Rattle.std.specs.Prelude.{IfSome}
use Rattle.plan_model.specs.ProfilePlaces.{FindProfiles}
use Rattle.bound_rules.specs.declared.energy.Profiles.{Profiles}

-- the places, where they are at hand, are those of the list
abbrev pub HasPlaces : Profiles → Type 0
HasPlaces p = IfSome p.places (λ found. FindProfiles found.now.entries p.list.now)
