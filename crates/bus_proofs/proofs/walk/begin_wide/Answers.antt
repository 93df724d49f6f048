use Rattle.std.proofs.Common.{refl}
use Rattle.leaf_bounds.specs.Bases.{limits_of}
use Rattle.bus_proofs.specs.Cases.{with_rank}
use Rattle.bus_proofs.proofs.RoomSteps.{further_then, narrow_within, room_next}
use Rattle.bus_proofs.proofs.WalkSteps.{wide_begun, wide_room}
use Rattle.bus_proofs.proofs.walk.begin_wide.Goals as goal

pub returns-clause-further : goal.returns-clause-further
returns-clause-further c = further_then c.is_wide.ensures.further c.narrow.ensures.further

pub returns-clause-room : goal.returns-clause-room
returns-clause-room c = λ t.
    let e = c.requires.known.0 in
    let now = c.if-not-is_wide.ensures.yes refl c.requires.known.0 c.requires.known.1 in
    room_next
    (wide_room c.requires.room c.is_wide.ensures.room c.is_wide.ensures.further c.requires.known.1 now)
    c.narrow.ensures.room c.narrow.ensures.further now.case (c.narrow.ensures.case _ now.case)
    (narrow_within (limits_of c.args.basis.now).wires c.args.rank c.args.width (with_rank c.args.case.now.widths.wires c.requires.known.0 c.args.rank))

pub returns-clause-begun : goal.returns-clause-begun
returns-clause-begun c = λ t root e from is.
    wide_begun c.args.stack.now c.args.at.depth c.args.at.node
    from is c.requires.room c.requires.depth c.note_split.ensures c.mark-mark.ensures c.is_wide.ensures.room c.is_wide.ensures.further
    (c.if-not-is_wide.ensures.yes refl e is) c.requires.node c.narrow.ensures.further c.narrow.ensures.case
