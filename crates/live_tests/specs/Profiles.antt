-- The profiles of limits in a map by the names of their tests.
use Rattle.std.specs.Prelude.{ℕ, List}
use Rattle.indexmap.specs.IndexMap.{IndexMap}
use Rattle.soc_model.specs.declared.TestId.{TestId}
use Rattle.plan_model.specs.declared.Profile.{Profile}
use Rattle.plan_model.specs.ProfilePlaces.{FindProfiles}

-- the map finds the profiles
abbrev pub AreProfilePlaces : {S : Type 0} → IndexMap TestId ℕ S → List Profile → Type 0
AreProfilePlaces places profiles = FindProfiles places.entries profiles
