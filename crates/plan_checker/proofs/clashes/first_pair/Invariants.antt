use Rattle.std.proofs.Common.{◌<◌, ℕ}
use Rattle.plan_checker.specs.Clashes.{HasNoPartner, keeps_apart}
use Rattle.plan_checker.proofs.clashes.first_pair.Given as goal

abbrev pub invariant-loop-first : goal.invariant-loop-first
invariant-loop-first l = (k : ℕ) → k < l.first → HasNoPartner (keeps_apart l.parents l.apart) l.placed k l.cycle
