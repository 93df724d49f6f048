use Rattle.std.proofs.Common.{arith}
use Rattle.bound_rules.proofs.LeastWidths.{least_on_one}
use Rattle.bound_rules.proofs.widths.least_area.Goals as goal

pub returns : goal.returns
returns c = λ wires some. omega (arith, c.tam_times.ensures.time, least_on_one c.args.sizes.now c.args.tests.now wires some c.requires.fitting.longest)
