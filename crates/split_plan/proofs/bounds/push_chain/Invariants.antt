use Rattle.std.proofs.Common.{◌≡◌, ℕ, ◌+◌, ◌++◌, map}
use Rattle.std.specs.List.{range_with_len}
use Rattle.split_plan.specs.Cuts.{part_id}
use Rattle.split_plan.proofs.bounds.push_chain.Given as goal

abbrev pub invariant-loop-place : goal.invariant-loop-place
invariant-loop-place l = l.before.items ≡ l.initial.before.items ++ map (λ (k : ℕ). (part_id l.cut k, part_id l.cut (k + 1))) (range_with_len 0 l.place)
