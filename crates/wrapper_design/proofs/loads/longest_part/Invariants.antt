use Rattle.std.proofs.Common.{◌≡◌, ℕ, List, length, take}
use Rattle.std.specs.List.{sum, sum_by}
use Rattle.wrapper_design.specs.declared.order.ScanChain.{ScanChain}
use Rattle.wrapper_design.specs.Loads.{IsMinHeap, IsOrder}
use Rattle.wrapper_design.proofs.Follow.{Follows, parts_after}
use Rattle.wrapper_design.proofs.loads.longest_part.Given as goal

abbrev pub invariant-loop-chain : goal.invariant-loop-chain
invariant-loop-chain l = record {
  heap : IsMinHeap l.loads;
  total : sum l.loads ≡ sum_by (λ (c : ScanChain). c.length.0) (take l.chain-index l.order);
  follows : (lengths : List ℕ) → IsOrder lengths l.order → Follows lengths (parts_after lengths l.order (length l.fn.loads) l.chain-index) l.loads l.longest;
}
