use Rattle.std.proofs.Common.{◌≡◌, take, map, replicate, false}
use Rattle.plan_model.specs.declared.ChainPlan.{ChainPlan}
use Rattle.vector_lines.specs.Layouts.{chain_length}
use Rattle.bit_machine.proofs.capturing.resting_rings.Given as goal

abbrev pub invariant-loop-chain : goal.invariant-loop-chain
invariant-loop-chain l =
    l.all.items ≡ map (λ (c : ChainPlan). replicate (chain_length l.layout.lengths.items c) false) (take l.chain-index l.layout.chains.items)
