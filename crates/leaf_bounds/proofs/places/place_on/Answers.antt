use Rattle.std.proofs.Common.{ap, ◌∙◌, length}
use Rattle.std.proofs.lemmas.List.{length-set}
use Rattle.leaf_bounds.proofs.Bits.{rest_within, placed_on_bits}
use Rattle.leaf_bounds.proofs.Takings.{after_then}
use Rattle.leaf_bounds.proofs.places.place_on.Goals as goal

pub take_away-requires-clause-at : goal.take_away-requires-clause-at
take_away-requires-clause-at c = rest_within c.requires.at

pub take_others-requires-clause-at : goal.take_others-requires-clause-at
take_others-requires-clause-at c = record {
  place = c.requires.at.place;
  modules = c.requires.at.modules;
  known = c.requires.at.known;
  long = ap length c.take_away.ensures.may ∙ length-set c.args.ranks.now.may.items c.args.at.place _ ∙ c.requires.at.long;
}

pub returns-clause-placed : goal.returns-clause-placed
returns-clause-placed c = λ e known has.
    placed_on_bits c.args.rank
    c.requires.at.place (rest_within c.requires.at) known c.take_away.ensures.may c.take_others.ensures.without has

pub returns-clause-after : goal.returns-clause-after
returns-clause-after c = after_then c.take_away.ensures.after c.take_others.ensures.after
