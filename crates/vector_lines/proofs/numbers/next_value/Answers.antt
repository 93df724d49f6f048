use Rattle.vector_lines.proofs.Walks.{walk_known, walk_value, walk_next}
use Rattle.vector_lines.proofs.numbers.next_value.Goals as goal

pub next-requires-clause-value : goal.next-requires-clause-value
next-requires-clause-value g c =
    let next = c.requires.next in
    walk_known c.refilled-here.ensures.some (c.refilled-here.ensures.walk _ next.is)

pub returns-clause-some : goal.returns-clause-some
returns-clause-some g c =
    let next = c.requires.next in
    walk_known c.refilled-here.ensures.some (c.refilled-here.ensures.walk _ next.is)

pub returns-clause-value : goal.returns-clause-value
returns-clause-value g c = λ n more is.
    walk_value c.refilled-here.ensures.some n more (c.refilled-here.ensures.walk _ is)

pub returns-clause-walk : goal.returns-clause-walk
returns-clause-walk g c = λ n more is.
    walk_next c.refilled-here.ensures.some n c.next.result more (c.refilled-here.ensures.walk _ is) c.next.ensures
