use Rattle.std.proofs.Common.{◌^◌, ◌∙◌, arith}
use Rattle.plan_model.proofs.LowerTimes.{quotient_up-le}
use Rattle.bound_rules.proofs.Works.{div_ceil_is}
use Rattle.bound_rules.proofs.quotient_up.Goals as goal

pub overflow_cast-result : goal.overflow_cast-result
overflow_cast-result c =
    let is = rw c.from.ensures at (c.div_ceil.ensures ∙ div_ceil_is c.args.total c.from.result (omega (arith, c.from.ensures, c.requires.some))) in
    omega (arith, is, quotient_up-le c.args.total (10 ^ 18) c.args.parts c.requires.some c.requires.fits)

pub returns-clause-quotient : goal.returns-clause-quotient
returns-clause-quotient c = rw c.from.ensures at (c.div_ceil.ensures ∙ div_ceil_is c.args.total c.from.result (omega (arith, c.from.ensures, c.requires.some)))

pub returns-clause-small : goal.returns-clause-small
returns-clause-small c = omega (arith, returns-clause-quotient c, quotient_up-le c.args.total (10 ^ 18) c.args.parts c.requires.some c.requires.fits)
