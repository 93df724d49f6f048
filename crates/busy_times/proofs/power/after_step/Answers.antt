use Rattle.std.proofs.Common.{◌+◌, arith}
use Rattle.busy_times.proofs.power.after_step.Goals as goal

pub returns-clause-fits : goal.returns-clause-fits
returns-clause-fits c = λ load ended x low high.
    let from = c.after_crowds.ensures.from in
    c.after_crowds.ensures.free load ended x (omega (arith, from, low)) (omega (arith, from, high, c.if-end-offset.false))

pub returns-clause-least : goal.returns-clause-least
returns-clause-least c = λ load ended other later good.
    let some = c.if-end-offset.false in
    omega (arith, c.after_crowds.ensures.least load ended (other + c.args.offset) (omega (arith, later)) (λ x low high. good x low (omega (arith, high, some))))
