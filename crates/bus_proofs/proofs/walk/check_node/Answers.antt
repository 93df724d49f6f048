use Rattle.leaf_bounds.specs.Bases.{limits_of}
use Rattle.bus_proofs.proofs.RoomSteps.{room_next, tightened_within}
use Rattle.bus_proofs.proofs.WalkSteps.{at_here}
use Rattle.bus_proofs.proofs.walk.check_node.Goals as goal

pub go_on-requires-clause-room : goal.go_on-requires-clause-room
go_on-requires-clause-room c =
    let b = c.requires.here.3.begins in
    room_next c.requires.room c.tighten.ensures.room c.tighten.ensures.further b.case
    (c.tighten.ensures.case b.c b.case) (tightened_within (limits_of c.args.basis.now).wires c.args.case.now.widths.wires b.c)

pub go_on-requires-clause-at : goal.go_on-requires-clause-at
go_on-requires-clause-at c = (
  c.requires.here.0,
  c.requires.here.1,
  c.requires.here.2,
  at_here c.requires.room c.tighten.ensures.further c.tighten.ensures.case c.requires.here.3,
)

pub returns-clause-further : goal.returns-clause-further
returns-clause-further c = λ root x left here.
    c.go_on.ensures.further root x left
    (at_here c.requires.room c.tighten.ensures.further c.tighten.ensures.case here)

pub returns-clause-judged : goal.returns-clause-judged
returns-clause-judged c = λ root x left here.
    c.go_on.ensures.judged root x left
    (at_here c.requires.room c.tighten.ensures.further c.tighten.ensures.case here)

pub returns-clause-goes_on : goal.returns-clause-goes_on
returns-clause-goes_on c = λ root x left here.
    c.go_on.ensures.goes_on root x left
    (at_here c.requires.room c.tighten.ensures.further c.tighten.ensures.case here)

pub returns-clause-work : goal.returns-clause-work
returns-clause-work c = λ root x left here.
    c.go_on.ensures.work root x left
    (at_here c.requires.room c.tighten.ensures.further c.tighten.ensures.case here)
