use Rattle.std.proofs.Common.{◌≡◌, take, map}
use Rattle.schedule_search.specs.declared.tries.TriedTest.{TriedTest}
use Rattle.schedule_search.proofs.tries.places_of.Given as goal

abbrev pub invariant-loop-tried : goal.invariant-loop-tried
invariant-loop-tried l = l.places.items ≡ map (λ (t : TriedTest). t.place) (take l.tried-index l.by_length)
