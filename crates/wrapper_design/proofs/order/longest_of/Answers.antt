use Rattle.std.proofs.Common.{arith}
use Rattle.wrapper_design.specs.declared.order.ScanChain.{ScanChain}
use Rattle.wrapper_design.proofs.Alone.{longest_next}
use Rattle.wrapper_design.proofs.order.longest_of.Goals as goal

no_chain : ScanChain
no_chain = record { length = record { 0 = 0 }; place = 0 }

pub loop-chain-preserved : goal.loop-chain-preserved
unfolding no_chain
loop-chain-preserved c =
    let next = longest_next c.args.order.now c.loop-chain.chain-index no_chain c.loop-chain-test.true in
    omega (arith, c.max-longest.ensures, next, c.loop-chain.invariant)
