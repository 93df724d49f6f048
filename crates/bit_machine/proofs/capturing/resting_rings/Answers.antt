use Rattle.std.proofs.Common.{◌≤◌, ◌∙◌, sym, ap, map, length, replicate, false}
use Rattle.std.proofs.lemmas.List.{take_all}
use Rattle.plan_model.specs.declared.ChainPlan.{ChainPlan}
use Rattle.vector_lines.specs.Layouts.{chain_length}
use Rattle.bit_machine.proofs.Layouts.{zeros-dealt}
use Rattle.vector_lines.proofs.Layouts.{mapped_more}
use Rattle.bit_machine.proofs.capturing.resting_rings.Goals as goal

pub returns : goal.returns
returns c =
    let past : length c.args.layout.now.chains.items ≤ c.loop-chain.chain-index = rw c.deref-chain-items.ensures.value at c.loop-chain-test.false in
    c.loop-chain.invariant ∙ ap (map (λ (h : ChainPlan). replicate (chain_length c.args.layout.now.lengths.items h) false)) (take_all c.loop-chain.chain-index c.args.layout.now.chains.items past)
    ∙ sym (zeros-dealt c.args.layout.now.lengths.items 0 0 c.args.layout.now.chains.items)

pub loop-chain-preserved : goal.loop-chain-preserved
loop-chain-preserved c =
    let e = c.deref-chain-items.ensures.value in
    mapped_more (λ (h : ChainPlan). replicate (chain_length c.args.layout.now.lengths.items h) false) c.args.layout.now.chains.items c.loop-chain.chain-index (rw e at c.loop-chain-test.true)
    (rw e at c.chain-item.is) c.loop-chain.invariant (c.in_ok-zeros.ensures ∙ ap (λ n. replicate n false) (c.length_of-cells.ensures ∙ ap (λ lengths. chain_length lengths c.chain-item.result) c.deref.ensures.value)) c.in_ok-push.ensures.ok
