use Rattle.std.proofs.Common.{length, refl, ap, ◌∙◌, arith, slice_set}
use Rattle.std.proofs.lemmas.List.{length-set}
use Rattle.leaf_bounds.specs.Cases.{at_least}
use Rattle.leaf_bounds.proofs.Trails.{later_none, later_then, least_part, front_next}
use Rattle.leaf_bounds.proofs.widths.widen_ranks.Goals as goal

pub loop-rank-init : goal.loop-rank-init
loop-rank-init c = record { roomy = c.requires.roomy; later = later_none c.args.widths.now; long = refl; done = refl }

pub interval_at-old-requires : goal.interval_at-old-requires
interval_at-old-requires c = omega (arith, c.loop-rank-test.true, c.requires.count, c.loop-rank.invariant.long)

pub narrow_rank-requires-clause-within : goal.narrow_rank-requires-clause-within
narrow_rank-requires-clause-within c =
    least_part c.loop-rank.widths.intervals.items c.loop-rank.rank c.args.width c.requires.width c.loop-rank.invariant.roomy.few
    (omega (arith, c.loop-rank-test.true, c.requires.count, c.loop-rank.invariant.long)) c.interval_at-old.ensures c.at_least-next.ensures

pub loop-rank-preserved : goal.loop-rank-preserved
loop-rank-preserved c =
    let is =
    c.narrow_rank.ensures.intervals ∙ ap (slice_set c.loop-rank.widths.intervals.items c.loop-rank.rank) (c.at_least-next.ensures ∙ ap (at_least c.args.width) c.interval_at-old.ensures) in
    record {
      roomy = c.narrow_rank.ensures.roomy;
      later = later_then c.loop-rank.invariant.later c.narrow_rank.ensures.later;
      long = ap length c.narrow_rank.ensures.intervals ∙ length-set c.loop-rank.widths.intervals.items c.loop-rank.rank c.at_least-next.result ∙ c.loop-rank.invariant.long;
      done = is ∙ front_next (at_least c.args.width) c.args.widths.now.intervals.items c.loop-rank.rank
          (omega (arith, c.loop-rank-test.true, c.requires.count)) c.loop-rank.invariant.done;
    }
