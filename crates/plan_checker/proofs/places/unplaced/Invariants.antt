use Rattle.std.proofs.Common.{◌≡◌, ◌<◌, ℕ, Some, slice_get, slice_index, IsTrue}
use Rattle.soc_model.specs.Chips.{ModuleValue, soc_value}
use Rattle.plan_model.specs.Rules.{has_tam}
use Rattle.plan_checker.proofs.places.unplaced.Given as goal

abbrev pub invariant-loop-place : goal.invariant-loop-place
invariant-loop-place l = (p : ℕ) (m : ModuleValue) → p < l.place → slice_get (soc_value l.soc).modules p ≡ Some m → IsTrue (has_tam m) → slice_index l.marks p < l.count
