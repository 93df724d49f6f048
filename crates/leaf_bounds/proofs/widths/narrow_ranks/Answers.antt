use Rattle.std.proofs.Common.{◌≡◌, suc, ◌+◌, ◌<◌, length, refl, sym, ap, ◌∙◌, arith, slice_set}
use Rattle.std.proofs.lemmas.List.{length-set}
use Rattle.leaf_bounds.specs.Cases.{at_most}
use Rattle.leaf_bounds.proofs.Trails.{later_none, later_then, most_part, map_next, map_all}
use Rattle.leaf_bounds.proofs.widths.narrow_ranks.Goals as goal

pub loop-rank-init : goal.loop-rank-init
loop-rank-init c = record { roomy = c.requires.roomy; later = later_none c.args.widths.now; long = refl; done = refl }

pub interval_at-old-requires : goal.interval_at-old-requires
interval_at-old-requires c = omega (arith, c.loop-rank-test.true, c.known_ranks-count.ensures, c.loop-rank.invariant.long)

pub narrow_rank-requires-clause-within : goal.narrow_rank-requires-clause-within
narrow_rank-requires-clause-within c =
    most_part c.loop-rank.widths.intervals.items c.loop-rank.rank c.args.width c.loop-rank.invariant.roomy.few
    (omega (arith, c.loop-rank-test.true, c.known_ranks-count.ensures, c.loop-rank.invariant.long)) c.interval_at-old.ensures c.at_most-next.ensures

pub loop-rank-preserved : goal.loop-rank-preserved
loop-rank-preserved c =
    let within : c.loop-rank.rank < length c.loop-rank.widths.intervals.items = omega (arith, c.loop-rank-test.true, c.known_ranks-count.ensures, c.loop-rank.invariant.long) in
    let next : c.loop-rank.rank + 1 ≡ suc c.loop-rank.rank = omega arith in
    let is =
    c.narrow_rank.ensures.intervals ∙ ap (slice_set c.loop-rank.widths.intervals.items c.loop-rank.rank) (c.at_most-next.ensures ∙ ap (at_most c.args.width) c.interval_at-old.ensures) in
    record {
      roomy = c.narrow_rank.ensures.roomy;
      later = later_then c.loop-rank.invariant.later c.narrow_rank.ensures.later;
      long = ap length c.narrow_rank.ensures.intervals ∙ length-set c.loop-rank.widths.intervals.items c.loop-rank.rank c.at_most-next.result ∙ c.loop-rank.invariant.long;
      done = map_next (at_most c.args.width) c.loop-rank.widths.intervals.items within next is
          ∙ c.loop-rank.invariant.done;
    }

pub returns-clause-intervals : goal.returns-clause-intervals
returns-clause-intervals c =
    sym (map_all (at_most c.args.width) c.loop-rank.widths.intervals.items c.loop-rank.rank (omega (arith, c.loop-rank-test.false, c.known_ranks-count.ensures, c.loop-rank.invariant.long)))
    ∙ c.loop-rank.invariant.done
