use Rattle.std.proofs.Common.{◌≡◌, ◌+◌, ◌≤◌, drop, length}
use Rattle.std.specs.List.{position_from}
use Rattle.std.specs.Map.{lookup}
use Rattle.indexmap.specs.IndexMap.{index_map_len, spare}
use Rattle.soc_model.specs.declared.TheConstants.{TESTS_MOST}
use Rattle.soc_model.specs.declared.TestId.{TestId}
use Rattle.soc_model.specs.Chips.{same_test}
use Rattle.bound_certificate.specs.ProfileNames.{names_of}
use Rattle.bound_certificate.proofs.power_value.fill_places.Given as goal

abbrev pub invariant-loop-place : goal.invariant-loop-place
invariant-loop-place l = record {
  filled : (id : TestId) → lookup (same_test id) l.places.entries ≡ position_from (same_test id) l.place (drop l.place (names_of l.profiles));
  count : index_map_len l.places + l.place ≡ length l.profiles;
  room : TESTS_MOST ≤ index_map_len l.places + spare l.places;
}
