use Rattle.std.proofs.Common.{arith}
use Rattle.busy_times.proofs.Profiles.{raised_nowhere, raised_all, over_read, over_from}
use Rattle.busy_times.proofs.profile.raise_load.Goals as goal

pub returns-then-is_over-clause-items : goal.returns-then-is_over-clause-items
returns-then-is_over-clause-items c = raised_nowhere c.args.draw.now c.args.points.now.items (c.is_over.ensures.over c.if-is_over.true)

pub returns-then-index-draw-clause-items : goal.returns-then-index-draw-clause-items
returns-then-index-draw-clause-items c =
    let are = c.loop-place.invariant.raised in
    raised_all c.args.draw.now c.args.points.now.items c.loop-place.points.items c.loop-place.place are
    (over_read c.args.points.now.items c.loop-place.points.items c.loop-place.place c.args.draw.now.to c.index.result.now c.requires.ordered are.rest c.index.ensures c.if-index-draw.true)

pub returns-clause-items : goal.returns-clause-items
returns-clause-items c =
    raised_all c.args.draw.now c.args.points.now.items c.loop-place.points.items c.loop-place.place c.loop-place.invariant.raised
    (over_from c.args.points.now.items c.loop-place.place c.args.draw.now.to c.requires.ordered (λ lt. absurd (let ended = c.loop-place-test.false in let all = c.len-place-end.ensures in omega (arith, lt, ended, all, c.args.points.now.ok.0))))
