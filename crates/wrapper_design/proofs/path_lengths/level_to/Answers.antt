use Rattle.std.proofs.Common.{arith}
use Rattle.wrapper_design.proofs.Steady.{level_least, share_is, share_stays}
use Rattle.wrapper_design.proofs.path_lengths.level_to.Goals as goal

pub returns-then-reached-max-clause-same : goal.returns-then-reached-max-clause-same
returns-then-reached-max-clause-same c = λ v le within. level_least c.args.longest c.args.cells c.args.width v c.args.reached c.requires.some le c.requires.reached (omega (arith, c.max.ensures, c.if-reached-max.true))

pub returns-clause-least : goal.returns-clause-least
returns-clause-least c =
    let share = share_is c.args.longest c.args.cells c.args.width c.args.reached c.requires.some c.requires.reached (omega (arith, c.max.ensures, c.if-reached-max.false)) in
    omega (arith, c.min.ensures, share.1, c.requires.within)

pub returns-clause-same : goal.returns-clause-same
returns-clause-same c = λ v le within.
    share_stays c.args.longest c.args.cells c.args.width v c.args.reached c.requires.some le c.requires.reached (omega (arith, c.max.ensures, c.if-reached-max.false)) (omega (arith, c.min.ensures, within))
