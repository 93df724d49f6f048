use Rattle.std.proofs.Common.{◌<◌, ℕ}
use Rattle.soc_model.specs.Chips.{soc_value}
use Rattle.live_tests.specs.Parents.{HasParentAt}
use Rattle.live_tests.proofs.parent_places.fill_parents.Given as goal

abbrev pub invariant-loop-place : goal.invariant-loop-place
invariant-loop-place l = (p : ℕ) → p < l.place → HasParentAt (soc_value l.soc) l.parents p
