use Rattle.std.proofs.Common.{[], ◌∷◌, ◌++◌, sym, ap, ◌∙◌}
use Rattle.leaf_bounds.specs.declared.widths.IntervalChange.TheVariants.{Was}
use Rattle.leaf_bounds.specs.Cases.{interval_of}
use Rattle.leaf_bounds.proofs.Trails.{later_put, set_kept, no_less, lower_low, lower_high, room_to_note}
use Rattle.leaf_bounds.proofs.widths.narrow_rank.Goals as goal

pub put_interval-requires-clause-room : goal.put_interval-requires-clause-room
put_interval-requires-clause-room c =
    room_to_note c.args.rank c.requires.roomy c.requires.rank c.requires.within.few c.requires.within.low c.requires.within.high
    (λ same. lower_low c.interval_at-old.result c.if-old-interval.true (c.interval_at-old.ensures ∙ same))

pub put_interval-requires-then-interval-old-clause-room : goal.put_interval-requires-then-interval-old-clause-room
put_interval-requires-then-interval-old-clause-room c =
    room_to_note c.args.rank c.requires.roomy c.requires.rank c.requires.within.few c.requires.within.low c.requires.within.high
    (λ same. lower_high c.interval_at-old.result c.if-interval-old.true (c.interval_at-old.ensures ∙ same))

pub returns-then-old-interval-clause-later : goal.returns-then-old-interval-clause-later
returns-then-old-interval-clause-later c =
    later_put c.args.widths.now c.put_interval.new.widths c.args.rank c.args.interval c.put_interval.ensures.intervals
    (c.put_interval.ensures.trail ∙ ap (λ i. c.args.widths.now.trail.items ++ Was c.args.rank i ∷ []) c.interval_at-old.ensures)
    c.put_interval.ensures.wires c.put_interval.ensures.most c.put_interval.ensures.room c.put_interval.ensures.trail_room

pub returns-then-interval-old-clause-later : goal.returns-then-interval-old-clause-later
returns-then-interval-old-clause-later c =
    later_put c.args.widths.now c.put_interval-then-interval-old.new.widths c.args.rank c.args.interval c.put_interval-then-interval-old.ensures.intervals
    (c.put_interval-then-interval-old.ensures.trail ∙ ap (λ i. c.args.widths.now.trail.items ++ Was c.args.rank i ∷ []) c.interval_at-old.ensures)
    c.put_interval-then-interval-old.ensures.wires c.put_interval-then-interval-old.ensures.most c.put_interval-then-interval-old.ensures.room c.put_interval-then-interval-old.ensures.trail_room

pub returns-else-interval-old-clause-intervals : goal.returns-else-interval-old-clause-intervals
returns-else-interval-old-clause-intervals c =
    sym (set_kept c.args.widths.now.intervals.items c.args.rank c.args.interval
    (no_less (interval_of c.args.widths.now.intervals.items c.args.rank) c.requires.within
    (rw (← c.interval_at-old.ensures) c.if-old-interval.false) (rw (← c.interval_at-old.ensures) c.if-interval-old.false)))
