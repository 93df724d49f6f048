use Rattle.std.proofs.Common.{◌≡◌, take}
use Rattle.std.specs.List.{flat_map}
use Rattle.live_tests.specs.Names.{places_of}
use Rattle.live_tests.proofs.pairs_of.Given as goal

abbrev pub invariant-loop-first : goal.invariant-loop-first
invariant-loop-first l = l.pairs.items ≡ flat_map (places_of l.tests) (take l.first-index l.before)
