use Rattle.std.proofs.Common.{◌≡◌, map}
use Rattle.std.specs.List.{range_with_len}
use Rattle.wrapper_design.proofs.OneOrder.{chain_at}
use Rattle.wrapper_design.proofs.order.longest_first.Given as goal

abbrev pub invariant-loop-place : goal.invariant-loop-place
invariant-loop-place l = l.order.items ≡ map (chain_at l.lengths) (range_with_len 0 l.place)
