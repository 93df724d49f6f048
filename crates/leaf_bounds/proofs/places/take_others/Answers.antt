use Rattle.leaf_bounds.proofs.Bits.{bit_within, others_more, place_still}
use Rattle.leaf_bounds.proofs.Takings.{after_then}
use Rattle.leaf_bounds.proofs.places.take_others.Goals as goal

pub loop-rank-preserved : goal.loop-rank-preserved
loop-rank-preserved c =
    let there = place_still c.loop-rank.ranks.may.items c.requires.at c.loop-rank.invariant.without.long in
    record {
      space = c.take_other.ensures.space;
      after = after_then c.loop-rank.invariant.after c.take_other.ensures.after;
      without = others_more c.args.kept c.loop-rank.rank c.take_other.new.ranks.may.items
          c.requires.at.place (bit_within c.loop-rank.rank there c.loop-rank-test.true) c.loop-rank.invariant.without c.take_other.ensures.taken c.take_other.ensures.kept;
    }
