use Rattle.std.proofs.Common.{sym, arith}
use Rattle.busy_times.proofs.Profiles.{raised_nowhere, raised_all, over_read, over_from, over_low}
use Rattle.busy_times.proofs.profile.lower_load.Goals as goal

pub returns-then-is_over-clause-items : goal.returns-then-is_over-clause-items
returns-then-is_over-clause-items c = raised_nowhere c.args.draw.now c.args.points.now.items (c.is_over.ensures.over c.if-is_over.true)

pub returns-then-index-draw-clause-items : goal.returns-then-index-draw-clause-items
returns-then-index-draw-clause-items c =
    let are = c.loop-place.invariant.raised in
    raised_all c.args.draw.now c.loop-place.points.items c.args.points.now.items c.loop-place.place are
    (over_low c.args.draw.now c.loop-place.points.items c.args.points.now.items c.loop-place.place are
    (over_read c.args.points.now.items c.loop-place.points.items c.loop-place.place c.args.draw.now.to c.index.result.now c.requires.ordered (λ k e le. sym (are.rest k e le)) c.index.ensures c.if-index-draw.true))

pub returns-clause-items : goal.returns-clause-items
returns-clause-items c =
    let are = c.loop-place.invariant.raised in
    raised_all c.args.draw.now c.loop-place.points.items c.args.points.now.items c.loop-place.place are
    (over_low c.args.draw.now c.loop-place.points.items c.args.points.now.items c.loop-place.place are
    (over_from c.args.points.now.items c.loop-place.place c.args.draw.now.to c.requires.ordered (λ lt. absurd (let ended = c.loop-place-test.false in let all = c.len-place-end.ensures in omega (arith, lt, ended, all, c.args.points.now.ok.0)))))
