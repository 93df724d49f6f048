use Rattle.std.proofs.Common.{◌≡◌, drop}
use Rattle.std.specs.List.{position_from}
use Rattle.std.specs.Map.{lookup}
use Rattle.soc_model.specs.declared.TestId.{TestId}
use Rattle.soc_model.specs.Chips.{same_test}
use Rattle.live_tests.proofs.ProfilePlaces.{names_of}
use Rattle.live_tests.proofs.profiles.profile_places.Given as goal

abbrev pub invariant-loop-place : goal.invariant-loop-place
invariant-loop-place l = (id : TestId) → lookup (same_test id) l.places.entries ≡ position_from (same_test id) l.place (drop l.place (names_of l.profiles))
