use Rattle.std.proofs.Common.{◌<◌, ℕ}
use Rattle.plan_checker.specs.Clashes.{Clash, keeps_apart}
use Rattle.plan_checker.proofs.clashes.first_partner.Given as goal

abbrev pub invariant-loop-second : goal.invariant-loop-second
invariant-loop-second l = (k : ℕ) → k < l.second → Clash (keeps_apart l.parents l.apart) l.placed l.first k l.cycle → ⊥
