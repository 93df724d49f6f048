use Rattle.std.proofs.Common.{suc, ◌∷◌, ◌<◌, refl, subst, arith, slice_index_or}
use Rattle.bus_proofs.specs.Walks.{AreRanks}
use Rattle.bus_proofs.proofs.NodeRules.{place_is}
use Rattle.bus_proofs.proofs.nodes.placed.Goals as goal

pub are_twins-requires-clause-twins : goal.are_twins-requires-clause-twins
are_twins-requires-clause-twins c = λ k d within.
    subst (λ n. slice_index_or c.args.twins.now k d < n) c.known_ranks-known.ensures ((c.if-not-are_ranks.ensures.yes refl).known_all (suc k) d (omega (arith, within)))

pub returns-clause-some : goal.returns-clause-some
returns-clause-some c = λ e is.
    place_is c.args.rank c.args.twins.now is c.in-Some.ensures.some
    (subst (λ n. AreRanks n (c.args.rank ∷ c.args.twins.now)) c.known_ranks-known.ensures (c.if-not-are_ranks.ensures.yes refl))
    (c.if-not-are_twins.ensures.yes refl e is)
