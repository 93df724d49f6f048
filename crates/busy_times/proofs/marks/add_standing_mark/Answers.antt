use Rattle.busy_times.proofs.Profiles.{mark_added}
use Rattle.busy_times.proofs.marks.add_standing_mark.Goals as goal

pub returns-then-stands_at-clause-added : goal.returns-then-stands_at-clause-added
returns-then-stands_at-clause-added c = λ yes' held cycles are.
    let items = c.args.points.now.items in
    let there = c.stands_at.ensures.there c.if-stands_at.true in
    let within = rw c.deref.ensures.value at there.0 in
    let at = rw c.deref.ensures.value at there.1 in
    rw c.use_more.ensures.items (mark_added held cycles items c.args.place c.args.cycle are within at)
