use Rattle.std.proofs.Common.{ℕ, List, sym, subst}
use Rattle.plan_model.specs.Views.{limits_value}
use Rattle.limits_text.specs.Answers.{AreReadLimits}
use Rattle.limits_text.proofs.PrintedTexts.{printed_read}
use Rattle.limits_text.proofs.print.print_limits.Goals as goal

pub returns-clause-read : goal.returns-clause-read
returns-clause-read c = λ soc sound s. subst (λ (text : List ℕ). AreReadLimits text soc (limits_value c.args.limits.now)) (sym c.in_ok-text.ensures) (printed_read soc (limits_value c.args.limits.now) sound s)
