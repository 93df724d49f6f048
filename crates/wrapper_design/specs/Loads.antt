-- The scan lengths of chains under construction.
use Rattle.std.specs.Prelude.{◌≡◌, ℕ, ◌+◌, ◌*◌, ◌≤◌, ◌<◌, ◌^◌, List, length, map, slice_index}
use Rattle.std.specs.List.{All, sum}
use Rattle.plan_model.specs.Plans.{greatest}
use Rattle.wrapper_design.specs.declared.order.ScanChain.{ScanChain}
use Rattle.wrapper_design.specs.Design.{longest_first}

-- `j` is the first place of the least number
pub record IsFirstLeast (xs : List ℕ) (j : ℕ) : Type 0 where
  pub within : j < length xs
  pub least : (k : ℕ) → k < length xs → slice_index xs j ≤ slice_index xs k
  pub first : (k : ℕ) → k < j → slice_index xs j < slice_index xs k

-- no number is above one of its children, which for the place i are at 2 * i + 1 and 2 * i + 2
pub record IsMinHeap (xs : List ℕ) : Type 0 where
  pub below : (i c : ℕ) → 2 * i + 1 ≤ c → c ≤ 2 * i + 2 → c < length xs → slice_index xs i ≤ slice_index xs c

-- the scan chains with these lengths, longest first, ties by place
pub record IsOrder (lengths : List ℕ) (order : List ScanChain) : Type 0 where
  pub places : map (λ (c : ScanChain). c.place) order ≡ longest_first lengths
  pub lengths_are : All (λ (c : ScanChain). c.length.0 ≡ slice_index lengths c.place) order

-- the order of a mode's scan chains, with the longest and their flops, and numbers that are small
pub record IsPrepared (lengths : List ℕ) (order : List ScanChain) (longest flops ins outs : ℕ) : Type 0 where
  pub in_order : IsOrder lengths order
  pub longest_is : longest ≡ greatest (map (λ (c : ScanChain). c.length.0) order)
  pub flops_are : flops ≡ sum lengths
  pub few_flops : flops < 2 ^ 62
  pub few_ins : ins < 2 ^ 62
  pub few_outs : outs < 2 ^ 62
