use Rattle.busy_times.proofs.Gaps.{put_over_part}
use Rattle.busy_times.proofs.spares.put_over.Goals as goal

pub returns-clause-items : goal.returns-clause-items
returns-clause-items c =
    put_over_part c.args.points.now.items c.deref_mut.result.now c.rotate_right.new.self c.args.place c.args.spare c.args.points.now.len c.args.point c.deref_mut.ensures.value c.args.points.now.ok.0 c.requires.order c.requires.there c.rotate_right.ensures.after
