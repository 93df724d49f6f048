use Rattle.std.proofs.Common.{length, arith, ap}
use Rattle.std.proofs.lemmas.List.{length_push}
use Rattle.arch_schedule.proofs.problem.push_module.Goals as goal

pub returns-clause-number : goal.returns-clause-number
returns-clause-number c = omega (arith, c.len-number.ensures, ap length c.in_ok-push.ensures.ok, length_push c.args.modules.now.items c.args.«module».now.number)
