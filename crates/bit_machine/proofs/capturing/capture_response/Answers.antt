use Rattle.std.proofs.Common.{◌≡◌, ◌<◌, ◌+◌, ◌∙◌, [], sym, ap, arith, length, get_or, take, sum_by}
use Rattle.std.proofs.lemmas.List.Sums.{sum_by_more, sum_by_more_le}
use Rattle.plan_model.specs.declared.ChainPlan.{ChainPlan}
use Rattle.plan_model.specs.Runs.{captured}
use Rattle.bit_machine.specs.Sessions.{response_bit}
use Rattle.vector_lines.specs.Layouts.{layout_cells}
use Rattle.bit_machine.proofs.Layouts.{length-bits, length-bits_at, length-layout}
use Rattle.vector_lines.proofs.Layouts.{dealt-at}
use Rattle.bit_machine.proofs.Steps.{item_before, step_chain}
use Rattle.bit_machine.proofs.capturing.capture_response.Goals as goal

pub index-chain-requires : goal.index-chain-requires
index-chain-requires c =
    let many : length c.args.bits.now ≡ length c.args.layout.now.chains.items = length-bits c.args.layout.now c.args.bits.now c.requires.long in
    omega (arith, c.loop-place-test.true, c.args.layout.now.chains.ok.0)

pub capture_chain-requires-clause-listed : goal.capture_chain-requires-clause-listed
capture_chain-requires-clause-listed c =
    let many : length c.args.bits.now ≡ length c.args.layout.now.chains.items = length-bits c.args.layout.now c.args.bits.now c.requires.long in
    let within : c.loop-place.place < length c.args.layout.now.chains.items = omega (arith, c.loop-place-test.true) in
    let kept = rw (sym c.index-chain.ensures) at (c.requires.layout.chains c.loop-place.place c.index-chain.result.now within) in
    kept.listed

pub capture_chain-requires-clause-answered : goal.capture_chain-requires-clause-answered
capture_chain-requires-clause-answered c =
    let many : length c.args.bits.now ≡ length c.args.layout.now.chains.items = length-bits c.args.layout.now c.args.bits.now c.requires.long in
    let more = rw (sym c.index-chain.ensures) at (sum_by_more_le (λ (c : ChainPlan). c.outs) c.args.layout.now.chains.items c.loop-place.place c.index-chain.result.now (omega (arith, c.loop-place-test.true))) in
    omega (arith, more, c.loop-place.invariant.0, c.requires.answered)

pub capture_chain-requires-clause-long : goal.capture_chain-requires-clause-long
capture_chain-requires-clause-long c =
    let many : length c.args.bits.now ≡ length c.args.layout.now.chains.items = length-bits c.args.layout.now c.args.bits.now c.requires.long in
    ap length (item_before (captured (response_bit c.args.layout.now.lengths.items c.args.response.now)) (layout_cells c.args.layout.now) c.args.bits.now c.loop-place.place c.index-bits-place.result c.loop-place.invariant.1 c.loop-place-test.true)
    ∙ length-bits_at c.args.layout.now c.args.bits.now c.requires.long c.loop-place.place (omega (arith, c.loop-place-test.true)) (sym c.index-chain.ensures)

pub overflow_add-outs_from : goal.overflow_add-outs_from
overflow_add-outs_from c =
    let many : length c.args.bits.now ≡ length c.args.layout.now.chains.items = length-bits c.args.layout.now c.args.bits.now c.requires.long in
    let more = rw (sym c.index-chain.ensures) at (sum_by_more_le (λ (c : ChainPlan). c.outs) c.args.layout.now.chains.items c.loop-place.place c.index-chain.result.now (omega (arith, c.loop-place-test.true))) in
    omega (arith, more, c.loop-place.invariant.0, c.requires.answered)

pub loop-place-preserved : goal.loop-place-preserved
loop-place-preserved c =
    let many : length c.args.bits.now ≡ length c.args.layout.now.chains.items = length-bits c.args.layout.now c.args.bits.now c.requires.long in
    let within : c.loop-place.place < length c.args.layout.now.chains.items = omega (arith, c.loop-place-test.true) in
    let at : get_or c.args.layout.now.chains.items c.loop-place.place c.index-chain.result.now ≡ c.index-chain.result.now = sym c.index-chain.ensures in
    let more = rw at at (sum_by_more (λ (c : ChainPlan). c.outs) c.args.layout.now.chains.items c.loop-place.place c.index-chain.result.now within) in
    let cells = dealt-at c.args.layout.now.lengths.items 0 0 c.args.layout.now.chains.items c.loop-place.place within at in
    let wide : length (layout_cells c.args.layout.now) ≡ length c.args.layout.now.chains.items = length-layout c.args.layout.now.lengths.items 0 0 c.args.layout.now.chains.items in (
      omega (arith, more, c.loop-place.invariant.0),
      step_chain (captured (response_bit c.args.layout.now.lengths.items c.args.response.now))
          (layout_cells c.args.layout.now) c.args.bits.now c.loop-place.place c.index-bits-place.result c.loop-place.invariant.1 [] c.capture_chain.new.bits (omega arith) c.loop-place-test.true
          (rw cells (c.capture_chain.ensures (0 + sum_by (λ (c : ChainPlan). c.ins) (take c.loop-place.place c.args.layout.now.chains.items))
          (0 + sum_by (λ (c : ChainPlan). c.outs) (take c.loop-place.place c.args.layout.now.chains.items)) (omega (arith, c.loop-place.invariant.0)))),
    )
