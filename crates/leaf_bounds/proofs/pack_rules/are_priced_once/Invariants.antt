use Rattle.leaf_bounds.specs.Bases.{chip_of}
use Rattle.leaf_bounds.proofs.PackAnswers.{SeenTo}
use Rattle.leaf_bounds.proofs.pack_rules.are_priced_once.Given as goal

abbrev pub invariant-loop-at : goal.invariant-loop-at
invariant-loop-at l = SeenTo (chip_of l.basis) l.prices l.at l.initial.places l.places
