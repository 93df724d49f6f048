use Rattle.std.proofs.Common.{◌≡◌, ℕ, ◌++◌, map}
use Rattle.std.specs.List.{range_with_len}
use Rattle.split_plan.specs.Cuts.{part_at}
use Rattle.split_plan.proofs.parts.push_parts.Given as goal

abbrev pub invariant-loop-place : goal.invariant-loop-place
invariant-loop-place l = l.parts.items ≡ l.initial.parts.items ++ map part_at (map (λ (k : ℕ). (l.cut, k)) (range_with_len 0 l.place))
