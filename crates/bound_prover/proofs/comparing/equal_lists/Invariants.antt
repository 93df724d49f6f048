use Rattle.std.proofs.Common.{◌≡◌, map, take}
use Rattle.plan_model.specs.Proofs.{list_value}
use Rattle.bound_prover.proofs.comparing.equal_lists.Given as goal

abbrev pub invariant-loop-place : goal.invariant-loop-place
invariant-loop-place l = map list_value (take l.place l.one) ≡ map list_value (take l.place l.other)
