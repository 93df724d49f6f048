use Rattle.std.proofs.Common.{◌≡◌, ◌+◌, length, map, take}
use Rattle.std.specs.List.{range_with_len}
use Rattle.limits_text.specs.Places.{entry_of}
use Rattle.limits_text.proofs.places.row_in.Given as goal

abbrev pub invariant-loop-test : goal.invariant-loop-test
invariant-loop-test l = l.by_number.items ≡ map (entry_of l.live l.number (take l.test-index l.«module».tests.items)) (range_with_len 0 (length l.«module».tests.items + 1))
