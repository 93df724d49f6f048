use Rattle.std.proofs.Common.{◌∙◌, map, ap}
use Rattle.std.proofs.lemmas.List.{take_all}
use Rattle.schedule_search.specs.declared.tries.TriedTest.{TriedTest}
use Rattle.schedule_search.proofs.tries.places_of.Goals as goal

pub returns : goal.returns
returns c = c.loop-tried.invariant ∙ ap (map (λ (t : TriedTest). t.place)) (take_all c.loop-tried.tried-index c.args.by_length.now c.loop-tried-test.false)
