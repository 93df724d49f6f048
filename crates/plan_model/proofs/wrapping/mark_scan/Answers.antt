use Rattle.std.proofs.Common.{◌-◌, refl, arith}
use Rattle.plan_model.proofs.wrapping.mark_scan.Goals as goal

pub returns-then-seen-place-clause-twice : goal.returns-then-seen-place-clause-twice
returns-then-seen-place-clause-twice c = λ _. (c.args.scan - c.args.base, omega arith, omega arith, rw c.if-seen-place.true refl)
