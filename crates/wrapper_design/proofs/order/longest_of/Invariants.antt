use Rattle.std.proofs.Common.{◌≡◌, map, take}
use Rattle.plan_model.specs.Plans.{greatest}
use Rattle.wrapper_design.specs.declared.order.ScanChain.{ScanChain}
use Rattle.wrapper_design.proofs.order.longest_of.Given as goal

abbrev pub invariant-loop-chain : goal.invariant-loop-chain
invariant-loop-chain l = l.longest ≡ greatest (map (λ (c : ScanChain). c.length.0) (take l.chain-index l.order))
