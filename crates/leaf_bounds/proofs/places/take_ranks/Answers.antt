use Rattle.std.proofs.Common.{◌+◌, get_or, take, refl, nat_eq}
use Rattle.std.proofs.lemmas.List.Folds.{list_any_kept}
use Rattle.leaf_bounds.specs.Bits.{IsNamed}
use Rattle.leaf_bounds.proofs.Bits.{bit_within, named_from, named_this, place_still, without_more}
use Rattle.leaf_bounds.proofs.Takings.{after_then}
use Rattle.leaf_bounds.proofs.places.take_ranks.Goals as goal

pub loop-rank-preserved : goal.loop-rank-preserved
loop-rank-preserved c =
    let there = place_still c.loop-rank.ranks.may.items c.requires.at c.loop-rank.invariant.without.long in
    let off = c.args.off.now in
    let i = c.loop-rank.rank-index in
    record {
      space = c.take_rank.ensures.space;
      after = after_then c.loop-rank.invariant.after c.take_rank.ensures.after;
      without = without_more (get_or c.args.off.now c.loop-rank.rank-index 0) (IsNamed (take c.loop-rank.rank-index c.args.off.now)) (IsNamed (take (c.loop-rank.rank-index + 1) c.args.off.now)) c.requires.at.place
          (bit_within (get_or c.args.off.now c.loop-rank.rank-index 0) there (c.requires.off c.loop-rank.rank-index 0 c.loop-rank-test.true)) c.loop-rank.invariant.without c.take_rank.ensures.may
          (λ q. named_from off i (get_or c.args.off.now c.loop-rank.rank-index 0) q c.loop-rank-test.true refl) (λ q. list_any_kept (nat_eq q) off i) (named_this off i (get_or c.args.off.now c.loop-rank.rank-index 0) c.loop-rank-test.true refl);
    }
