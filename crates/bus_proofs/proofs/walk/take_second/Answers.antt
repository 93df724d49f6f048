use Rattle.leaf_bounds.specs.Bases.{limits_of}
use Rattle.bus_proofs.proofs.RoomSteps.{room_next, wide_within}
use Rattle.bus_proofs.proofs.walk.take_second.Goals as goal

pub returns-in-Wide-clause-room : goal.returns-in-Wide-clause-room
returns-in-Wide-clause-room c =
    room_next c.requires.room c.widen.ensures.room c.widen.ensures.further
    c.requires.forked.2 (c.widen.ensures.case c.requires.forked.0 c.requires.forked.2) (wide_within (limits_of c.args.basis.now).wires c.in-Wide.rank c.in-Wide.width c.requires.forked.0)
