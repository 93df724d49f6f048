use Rattle.std.proofs.Common.{false}
use Rattle.bound_certificate.specs.Pairs.{noted}
use Rattle.bound_certificate.proofs.Neighbours.{replaced_is}
use Rattle.bound_certificate.proofs.precedence_lists.put_pair.Goals as goal
use Rattle.common_lemmas.proofs.Options.{none_from}

pub returns-then-is_noted-clause-noted : goal.returns-then-is_noted-clause-noted
returns-then-is_noted-clause-noted c = λ q.
    replaced_is (noted c.args.pairs.now) (c.args.first, c.args.second) q false c.is_noted.result (noted c.replace_note.new.pairs q) c.is_noted.ensures c.if-is_noted.true (c.replace_note.ensures.replaced q)

pub add_note-requires-clause-new : goal.add_note-requires-clause-new
add_note-requires-clause-new c = none_from (noted c.args.pairs.now (c.args.first, c.args.second)) c.is_noted.result c.is_noted.ensures c.if-is_noted.false
