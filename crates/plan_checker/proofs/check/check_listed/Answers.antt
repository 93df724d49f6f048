use Rattle.std.proofs.Common.{arith}
use Rattle.plan_checker.proofs.check.check_listed.Goals as goal

pub returns-clause-room : goal.returns-clause-room
returns-clause-room c = λ modules pairs live has. record {
  rules = c.check_all.ensures.room modules pairs live has.rules;
  names = omega (arith, has.names, c.fill_names.ensures.space_left);
}
