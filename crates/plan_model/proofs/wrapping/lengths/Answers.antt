use Rattle.std.proofs.Common.{arith, sym, ◌∙◌}
use Rattle.std.proofs.lemmas.List.{take_all}
use Rattle.soc_model.specs.Chips.{module_value}
use Rattle.plan_model.specs.Cells.{scan_lengths}
use Rattle.plan_model.proofs.ChainLengths.{ins_and_flops, outs_and_flops}
use Rattle.plan_model.proofs.ChainLengths.{item_at, FitsModule, chain_fits_at, in_lengths, out_lengths}
use Rattle.plan_model.proofs.Greatest.{greatest_more}
use Rattle.plan_model.proofs.wrapping.lengths.Goals as goal

pub flops_of-flops-requires-clause-listed : goal.flops_of-flops-requires-clause-listed
flops_of-flops-requires-clause-listed c =
    let f : FitsModule (module_value c.args.«module».now) c.args.wrapper.now.scan c.chain-item.result = chain_fits_at (module_value c.args.«module».now) c.args.wrapper.now.scan c.args.wrapper.now.chains.items c.requires.proper c.loop-chain.chain-index c.chain-item.result (omega arith) (item_at c.args.wrapper.now.chains.items c.deref-chain-items.result.now c.loop-chain.chain-index c.chain-item.result c.deref-chain-items.ensures.value c.chain-item.is) in
    rw (c.deref.ensures.value, c.mode_chains-lengths.ensures) f.listed

pub flops_of-flops-requires-clause-fits : goal.flops_of-flops-requires-clause-fits
flops_of-flops-requires-clause-fits c =
    let f : FitsModule (module_value c.args.«module».now) c.args.wrapper.now.scan c.chain-item.result = chain_fits_at (module_value c.args.«module».now) c.args.wrapper.now.scan c.args.wrapper.now.chains.items c.requires.proper c.loop-chain.chain-index c.chain-item.result (omega arith) (item_at c.args.wrapper.now.chains.items c.deref-chain-items.result.now c.loop-chain.chain-index c.chain-item.result c.deref-chain-items.ensures.value c.chain-item.is) in
    rw (c.deref.ensures.value, c.mode_chains-lengths.ensures) (omega (arith, f.flops))

pub overflow_add-chain : goal.overflow_add-chain
overflow_add-chain c =
    let f : FitsModule (module_value c.args.«module».now) c.args.wrapper.now.scan c.chain-item.result = chain_fits_at (module_value c.args.«module».now) c.args.wrapper.now.scan c.args.wrapper.now.chains.items c.requires.proper c.loop-chain.chain-index c.chain-item.result (omega arith) (item_at c.args.wrapper.now.chains.items c.deref-chain-items.result.now c.loop-chain.chain-index c.chain-item.result c.deref-chain-items.ensures.value c.chain-item.is) in
    let e = rw (c.deref.ensures.value, c.mode_chains-lengths.ensures) at c.flops_of-flops.ensures in
    omega (arith, e, f.flops, f.ins)

pub overflow_add-chain-in-loop-chain : goal.overflow_add-chain-in-loop-chain
overflow_add-chain-in-loop-chain c =
    let f : FitsModule (module_value c.args.«module».now) c.args.wrapper.now.scan c.chain-item.result = chain_fits_at (module_value c.args.«module».now) c.args.wrapper.now.scan c.args.wrapper.now.chains.items c.requires.proper c.loop-chain.chain-index c.chain-item.result (omega arith) (item_at c.args.wrapper.now.chains.items c.deref-chain-items.result.now c.loop-chain.chain-index c.chain-item.result c.deref-chain-items.ensures.value c.chain-item.is) in
    let e = rw (c.deref.ensures.value, c.mode_chains-lengths.ensures) at c.flops_of-flops.ensures in
    omega (arith, e, f.flops, f.outs)

pub loop-chain-preserved : goal.loop-chain-preserved
loop-chain-preserved c =
    let e = rw (c.deref.ensures.value, c.mode_chains-lengths.ensures) at c.flops_of-flops.ensures in
    record {
      si = c.max-si.ensures ∙ rw (c.loop-chain.invariant.si, e) (sym (greatest_more (ins_and_flops (scan_lengths (module_value c.args.«module».now) c.args.wrapper.now.scan)) c.args.wrapper.now.chains.items c.loop-chain.chain-index c.chain-item.result (omega arith) (item_at c.args.wrapper.now.chains.items c.deref-chain-items.result.now c.loop-chain.chain-index c.chain-item.result c.deref-chain-items.ensures.value c.chain-item.is)));
      so = c.max-so.ensures ∙ rw (c.loop-chain.invariant.so, e) (sym (greatest_more (outs_and_flops (scan_lengths (module_value c.args.«module».now) c.args.wrapper.now.scan)) c.args.wrapper.now.chains.items c.loop-chain.chain-index c.chain-item.result (omega arith) (item_at c.args.wrapper.now.chains.items c.deref-chain-items.result.now c.loop-chain.chain-index c.chain-item.result c.deref-chain-items.ensures.value c.chain-item.is)));
    }

pub returns-clause-si : goal.returns-clause-si
returns-clause-si c = rw (in_lengths (scan_lengths (module_value c.args.«module».now) c.args.wrapper.now.scan) 0 0 c.args.wrapper.now.chains.items, ← take_all c.loop-chain.chain-index c.args.wrapper.now.chains.items (omega arith)) c.loop-chain.invariant.si

pub returns-clause-so : goal.returns-clause-so
returns-clause-so c = rw (out_lengths (scan_lengths (module_value c.args.«module».now) c.args.wrapper.now.scan) 0 0 c.args.wrapper.now.chains.items, ← take_all c.loop-chain.chain-index c.args.wrapper.now.chains.items (omega arith)) c.loop-chain.invariant.so
