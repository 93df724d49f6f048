use Rattle.std.proofs.Common.{◌≡◌, map, take}
use Rattle.soc_model.specs.Chips.{module_value}
use Rattle.plan_model.specs.Cells.{scan_lengths}
use Rattle.plan_model.specs.Plans.{greatest}
use Rattle.plan_model.proofs.ChainLengths.{ins_and_flops, outs_and_flops}
use Rattle.plan_model.proofs.wrapping.lengths.Given as goal

abbrev pub invariant-loop-chain : goal.invariant-loop-chain
invariant-loop-chain l = record {
  si : l.si ≡ greatest (map (ins_and_flops (scan_lengths (module_value l.«module») l.wrapper.scan)) (take l.chain-index l.wrapper.chains.items));
  so : l.so ≡ greatest (map (outs_and_flops (scan_lengths (module_value l.«module») l.wrapper.scan)) (take l.chain-index l.wrapper.chains.items));
}
