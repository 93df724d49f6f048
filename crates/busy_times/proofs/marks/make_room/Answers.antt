use Rattle.std.proofs.Common.{length, arith, ap}
use Rattle.busy_times.proofs.Profiles.{unused_dropped, few_used}
use Rattle.busy_times.proofs.marks.make_room.Goals as goal

pub returns-then-capacity-len-clause-points : goal.returns-then-capacity-len-clause-points
returns-then-capacity-len-clause-points c = λ held cycles are. rw c.drop_unused.ensures.items (unused_dropped held cycles c.args.points.now.items are)

pub returns-then-capacity-len-clause-room : goal.returns-then-capacity-len-clause-room
returns-then-capacity-len-clause-room c = omega (arith, few_used c.args.points.now.items, ap length c.drop_unused.ensures.items, c.requires.room, c.drop_unused.ensures.capacity)
