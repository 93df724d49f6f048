use Rattle.std.proofs.Common.{◌≡◌, suc, ◌+◌, ◌<◌, length, refl, sym, ap, ◌∙◌, arith, slice_set}
use Rattle.std.proofs.lemmas.List.{length-set}
use Rattle.leaf_bounds.specs.Cases.{tightened_by}
use Rattle.leaf_bounds.specs.Trails.{tight}
use Rattle.leaf_bounds.proofs.Trails.{few_at, later_none, later_then, tight_part, tight_next, tight_all, tight_first}
use Rattle.leaf_bounds.proofs.widths.tighten_ranks.Goals as goal

pub loop-rank-init : goal.loop-rank-init
loop-rank-init c = record { roomy = c.requires.roomy; later = later_none c.args.widths.now; long = refl; done = refl }

pub interval_at-old-requires : goal.interval_at-old-requires
interval_at-old-requires c = omega (arith, c.loop-rank-test.true, c.known_ranks-count.ensures, c.loop-rank.invariant.long)

pub tight-next-requires-clause-few : goal.tight-next-requires-clause-few
tight-next-requires-clause-few c =
    rw c.interval_at-old.ensures (few_at c.loop-rank.widths.intervals.items c.loop-rank.rank c.loop-rank.invariant.roomy.few (omega (arith, c.loop-rank-test.true, c.known_ranks-count.ensures, c.loop-rank.invariant.long)))

pub tight-next-requires-clause-more : goal.tight-next-requires-clause-more
tight-next-requires-clause-more c = omega (arith, c.spare_wires-more.ensures, c.requires.roomy.wires)

pub narrow_rank-requires-clause-within : goal.narrow_rank-requires-clause-within
narrow_rank-requires-clause-within c =
    tight_part c.loop-rank.widths.intervals.items c.loop-rank.rank c.spare_wires-more.result c.loop-rank.above c.loop-rank.invariant.roomy.few
    (omega (arith, c.loop-rank-test.true, c.known_ranks-count.ensures, c.loop-rank.invariant.long)) c.interval_at-old.ensures c.tight-next.ensures

pub loop-rank-preserved : goal.loop-rank-preserved
loop-rank-preserved c =
    let xs = c.loop-rank.widths.intervals.items in
    let within : c.loop-rank.rank < length c.loop-rank.widths.intervals.items = omega (arith, c.loop-rank-test.true, c.known_ranks-count.ensures, c.loop-rank.invariant.long) in
    let next : c.loop-rank.rank + 1 ≡ suc c.loop-rank.rank = omega arith in
    let this = c.tight-next.ensures ∙ ap (tight c.spare_wires-more.result c.loop-rank.above) c.interval_at-old.ensures in
    let is = c.narrow_rank.ensures.intervals ∙ ap (slice_set c.loop-rank.widths.intervals.items c.loop-rank.rank) this in
    record {
      roomy = c.narrow_rank.ensures.roomy;
      later = later_then c.loop-rank.invariant.later c.narrow_rank.ensures.later;
      long = ap length c.narrow_rank.ensures.intervals ∙ length-set c.loop-rank.widths.intervals.items c.loop-rank.rank c.tight-next.result ∙ c.loop-rank.invariant.long;
      done = tight_next c.spare_wires-more.result c.loop-rank.above xs within next is (ap (λ i. i.high) this)
          ∙ c.loop-rank.invariant.done;
    }

pub returns-clause-intervals : goal.returns-clause-intervals
returns-clause-intervals c =
    sym (tight_all c.spare_wires-more.result c.loop-rank.above c.loop-rank.widths.intervals.items c.loop-rank.rank (omega (arith, c.loop-rank-test.false, c.known_ranks-count.ensures, c.loop-rank.invariant.long)))
    ∙ c.loop-rank.invariant.done ∙ tight_first c.spare_wires-more.result c.args.widths.now.intervals.items c.requires.roomy.few
    ∙ ap (λ more. tightened_by more c.args.widths.now.intervals.items) c.spare_wires-more.ensures
