use Rattle.std.proofs.Common.{arith}
use Rattle.plan_model.proofs.GoodWithoutLimits.{good_alone}
use Rattle.plan_model.proofs.PowerAndAreaBounds.{widths_fit}
use Rattle.plan_model.proofs.laws.good_without_limits.Goals as goal

pub returns-clause-alone : goal.returns-clause-alone
returns-clause-alone c = good_alone

pub returns-clause-narrow : goal.returns-clause-narrow
returns-clause-narrow c = λ soc limits plan sound good. omega (arith, sound.few_wires, widths_fit soc limits plan good)
