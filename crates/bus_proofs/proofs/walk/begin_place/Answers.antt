use Rattle.bus_proofs.proofs.RoomSteps.{room_next}
use Rattle.bus_proofs.proofs.WalkSteps.{place_begun}
use Rattle.bus_proofs.proofs.walk.begin_place.Goals as goal

pub returns-in-Some-clause-room : goal.returns-in-Some-clause-room
returns-in-Some-clause-room c = λ t.
    room_next
    c.requires.room c.place_on.ensures.room c.place_on.ensures.further c.requires.known.1 (c.place_on.ensures.case c.requires.known.0 c.requires.known.1) (λ all. all)

pub returns-in-Some-clause-begun : goal.returns-in-Some-clause-begun
returns-in-Some-clause-begun c = λ t root e from is.
    place_begun c.args.stack.now c.args.at.depth c.args.at.node
    from is c.requires.room c.requires.depth c.note_split.ensures c.mark-mark.ensures (c.in-Some.ensures.some e is) c.requires.node c.place_on.ensures.further c.place_on.ensures.case
