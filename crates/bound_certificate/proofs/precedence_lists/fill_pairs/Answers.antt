use Rattle.bound_certificate.specs.Pairs.{noted, is_among}
use Rattle.bound_certificate.proofs.Neighbours.{only_stated}
use Rattle.bound_certificate.proofs.precedence_lists.fill_pairs.Goals as goal

pub returns-clause-stated : goal.returns-clause-stated
returns-clause-stated c = λ a b beside.
    only_stated (is_among c.args.before.now (a, b)) (noted c.list_pairs.new.pairs (a, b)) (noted c.note_stated.new.pairs (a, b)) (c.note_stated.ensures.stated (a, b)) (c.list_pairs.ensures.listed a b beside)
