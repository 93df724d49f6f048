use Rattle.std.proofs.Common.{arith}
use Rattle.bus_proofs.proofs.RoomSteps.{further_then, known_next, next_below}
use Rattle.bus_proofs.proofs.nodes.know_rank.Goals as goal

pub returns-clause-further : goal.returns-clause-further
returns-clause-further c = further_then c.extend.ensures.further c.tighten.ensures.further

pub returns-clause-below : goal.returns-clause-below
returns-clause-below c =
    next_below c.extend.new.self.widths.wires c.args.case.now.widths.wires c.args.rank c.requires.known.1 c.requires.rank
    (c.tighten.ensures.case _ (c.extend.ensures.case c.requires.known.0 c.requires.known.1))

pub returns-clause-case : goal.returns-clause-case
returns-clause-case c = λ e is.
    known_next c.args.rank is (omega (arith, c.if-rank-known_ranks.false, c.known_ranks.ensures)) c.requires.rank c.extend.ensures.further
    (c.tighten.ensures.case _ (c.extend.ensures.case e is))
