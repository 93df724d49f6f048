use Rattle.std.proofs.Common.{◌≡◌, map, take}
use Rattle.plan_model.specs.Proofs.{node_value}
use Rattle.bound_prover.proofs.comparing.equal_nodes.Given as goal

abbrev pub invariant-loop-place : goal.invariant-loop-place
invariant-loop-place l = map node_value (take l.place l.one) ≡ map node_value (take l.place l.other)
