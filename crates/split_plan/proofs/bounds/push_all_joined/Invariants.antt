use Rattle.std.proofs.Common.{◌≡◌, ◌++◌, take, flat_map}
use Rattle.soc_model.specs.declared.TestId.{TestId}
use Rattle.split_plan.specs.Cuts.{cut_named}
use Rattle.split_plan.specs.Parts.{joined}
use Rattle.split_plan.proofs.bounds.push_all_joined.Given as goal

abbrev pub invariant-loop-first : goal.invariant-loop-first
invariant-loop-first l = l.before.items ≡ l.initial.before.items ++ flat_map (λ (p : TestId × TestId). joined (cut_named l.cuts p.0) (cut_named l.cuts p.1)) (take l.first-index l.pairs)
