use Rattle.std.proofs.Common.{arith}
use Rattle.busy_times.proofs.power.after_only.Goals as goal

pub returns-clause-fits : goal.returns-clause-fits
returns-clause-fits c = λ load ended. ((λ x low high. let free = c.after_step.ensures.fits load ended x low high in let small = c.requires.within in omega (arith, free, small)), tt)

pub returns-clause-least : goal.returns-clause-least
returns-clause-least c = λ load ended other after fit. c.after_step.ensures.least load ended other after (λ x low high. let within = fit.0 x low high in omega (arith, within))
