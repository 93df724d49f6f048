use Rattle.std.proofs.Common.{◌∙◌}
use Rattle.leaf_bounds.specs.Bits.{HasPlace}
use Rattle.leaf_bounds.proofs.Bits.{bit_within, placed_off_bits, without_first}
use Rattle.leaf_bounds.proofs.Takings.{after_then}
use Rattle.leaf_bounds.proofs.places.place_off.Goals as goal

pub take_rank-requires-clause-at : goal.take_rank-requires-clause-at
take_rank-requires-clause-at c = record {
  place = c.requires.at.place;
  modules = c.requires.at.modules;
  known = c.requires.at.known;
  long = c.take_ranks.ensures.without.long ∙ c.requires.at.long;
}

pub returns-clause-placed : goal.returns-clause-placed
returns-clause-placed c = λ e known has.
    let there : HasPlace c.take_ranks.new.ranks.may.items c.args.at = record {
      place = c.requires.at.place;
      modules = c.requires.at.modules;
      known = c.requires.at.known;
      long = c.take_ranks.ensures.without.long ∙ c.requires.at.long;
    } in
    placed_off_bits c.args.rank c.args.twins.now c.requires.at.place known
    (without_first c.args.rank c.args.at.known c.args.twins.now
    c.requires.at.place (bit_within c.args.rank there c.requires.rank) c.take_ranks.ensures.without c.take_rank.ensures.may) has

pub returns-clause-after : goal.returns-clause-after
returns-clause-after c = after_then c.take_ranks.ensures.after c.take_rank.ensures.after
