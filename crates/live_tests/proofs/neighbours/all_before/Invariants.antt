use Rattle.std.proofs.Common.{◌≡◌, ℕ, ◌<◌, [], length, take, map}
use Rattle.std.specs.Prelude.{slice_index_or}
use Rattle.live_tests.specs.Neighbours.{before, tests_of}
use Rattle.live_tests.proofs.neighbours.all_before.Given as goal

abbrev pub invariant-loop-first : goal.invariant-loop-first
invariant-loop-first l = (length l.lists.items ≡ l.count) × ((i : ℕ) → i < l.count → slice_index_or (map tests_of l.lists.items) i [] ≡ before i (take l.first-index l.pairs))
