use Rattle.std.proofs.Common.{◌≡◌, ℕ, ◌<◌, List, length, map, take}
use Rattle.std.specs.List.{sum, sum_by}
use Rattle.plan_model.specs.declared.ChainPlan.{ChainPlan}
use Rattle.plan_model.specs.Plans.{greatest}
use Rattle.wrapper_design.specs.declared.order.ScanChain.{ScanChain}
use Rattle.wrapper_design.specs.Design.{scan_length}
use Rattle.wrapper_design.specs.Loads.{IsOrder}
use Rattle.wrapper_design.proofs.Follow.{parts_after}
use Rattle.std.specs.BinaryHeap.{IsHeap, heap_items, heap_len}
use Rattle.wrapper_design.specs.Entries.{entry_cmp, HasEntries}
use Rattle.wrapper_design.proofs.dealing.put_scans.Given as goal

abbrev pub invariant-loop-chain : goal.invariant-loop-chain
invariant-loop-chain l = record {
  heap : IsHeap entry_cmp (heap_items l.heap);
  many : 0 < heap_len l.heap;
  entries : HasEntries (heap_items l.heap) l.loads;
  total : sum l.loads ≡ sum_by (λ (c : ScanChain). c.length.0) (take l.chain-index l.order);
  loads : (lengths : List ℕ) → IsOrder lengths l.order → l.loads ≡ map (scan_length lengths) (parts_after lengths l.order (length l.fn.loads) l.chain-index);
  parts : (lengths : List ℕ) → IsOrder lengths l.order → map (λ (c : ChainPlan). c.scans.items) l.chains ≡ parts_after lengths l.order (length l.fn.loads) l.chain-index;
  longest : l.longest ≡ greatest l.loads;
}
