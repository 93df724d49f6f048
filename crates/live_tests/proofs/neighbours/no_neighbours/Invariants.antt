use Rattle.std.proofs.Common.{◌≡◌, ℕ, ◌<◌, [], length, map}
use Rattle.std.specs.Prelude.{slice_index_or}
use Rattle.live_tests.specs.Neighbours.{tests_of}
use Rattle.live_tests.proofs.neighbours.no_neighbours.Given as goal

abbrev pub invariant-loop-room : goal.invariant-loop-room
invariant-loop-room l = (length l.lists.items ≡ l.room-index) × ((i : ℕ) → i < l.room-index → slice_index_or (map tests_of l.lists.items) i [] ≡ [])
