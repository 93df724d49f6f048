use Rattle.std.proofs.Common.{◌≡◌, take, map}
use Rattle.live_tests.specs.Parents.{below}
use Rattle.live_tests.proofs.parent_places.parents.Given as goal

abbrev pub invariant-loop-place : goal.invariant-loop-place
invariant-loop-place l = l.parents.items ≡ map (below l.count) (take l.place-index l.place-items)
