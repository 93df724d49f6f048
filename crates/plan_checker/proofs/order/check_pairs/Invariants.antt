use Rattle.std.proofs.Common.{ℕ, List}
use Rattle.plan_checker.specs.Order.{IsInOrderAt}
use Rattle.plan_model.proofs.FirstBreaches.{EachTo}
use Rattle.plan_checker.proofs.order.check_pairs.Given as goal

abbrev pub invariant-loop-first : goal.invariant-loop-first
invariant-loop-first l = EachTo (λ (earlier : List (ℕ × ℕ)) (e : ℕ × ℕ). IsInOrderAt l.placed e) l.pairs l.first-index
