use Rattle.plan_checker.proofs.Summing.{IsSummed}
use Rattle.plan_checker.proofs.events.first_excess.Given as goal

abbrev pub invariant-loop-at : goal.invariant-loop-at
invariant-loop-at l = IsSummed l.events l.most l.at l.begun l.ended
