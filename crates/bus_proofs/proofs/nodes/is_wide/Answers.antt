use Rattle.std.proofs.Common.{rules}
use Rattle.bus_proofs.proofs.RoomSteps.{not_wide, wide_now}
use Rattle.bus_proofs.proofs.nodes.is_wide.Goals as goal

pub returns-clause-yes : goal.returns-clause-yes
returns-clause-yes c = λ t e is.
    wide_now c.args.case.now.widths.wires c.args.rank c.args.width is
    (search rules) (search rules)
    (c.know_rank.ensures.case e is) c.know_rank.ensures.below c.interval_at-interval.ensures (c.is_inside.ensures.yes t)

pub returns-clause-no : goal.returns-clause-no
returns-clause-no c = λ t e is.
    not_wide e c.args.case.now.widths.wires c.args.rank c.args.width (c.know_rank.ensures.case e is) c.interval_at-interval.ensures
    (c.is_inside.ensures.no t)
