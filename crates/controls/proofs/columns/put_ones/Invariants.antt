use Rattle.std.proofs.Common.{nat_eq}
use Rattle.controls.specs.Columns.{AreOnes}
use Rattle.controls.proofs.columns.put_ones.Given as goal

abbrev pub invariant-loop-below : goal.invariant-loop-below
invariant-loop-below l = AreOnes (λ x. nat_eq x l.column) l.columns l.row l.below l.initial.text l.text
