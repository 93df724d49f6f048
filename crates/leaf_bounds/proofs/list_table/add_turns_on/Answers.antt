use Rattle.std.proofs.Common.{subst}
use Rattle.leaf_bounds.specs.ListRules.{TurnsMarked}
use Rattle.leaf_bounds.proofs.list_table.add_turns_on.Goals as goal

pub returns : goal.returns
returns c = λ rank.
    let h = subst (TurnsMarked c.args.rules.now c.args.tests.now) c.in-Some.is c.in_ok-marks.ensures in
    (h.0, c.in_ok-push_turns_on.ensures rank c.args.tests.now h.1)
