use Rattle.std.proofs.Common.{◌≡◌, take, map}
use Rattle.plan_model.specs.Views.{chain_value}
use Rattle.vector_lines.proofs.layout.copy_of.Given as goal

abbrev pub invariant-loop-chain : goal.invariant-loop-chain
invariant-loop-chain l = map chain_value l.copy.items ≡ map chain_value (take l.chain-index l.chains)
