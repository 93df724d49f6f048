use Rattle.std.proofs.Common.{refl, arith}
use Rattle.bus_proofs.proofs.NodeRules.{all_new, each_new}
use Rattle.bus_proofs.proofs.nodes.are_ranks.Goals as goal

pub returns-then-not-is_new_twin-clause-no : goal.returns-then-not-is_new_twin-clause-no
returns-then-not-is_new_twin-clause-no c = λ e are.
    c.if-not-is_new_twin.ensures.no refl (each_new c.args.known c.args.rank c.args.twins.now c.loop-at.at are c.loop-at-test.true)

pub returns-clause-yes : goal.returns-clause-yes
returns-clause-yes c = λ e.
    all_new c.args.known c.args.rank c.args.twins.now (c.if-not-is_known.ensures.yes refl) (λ k less. c.loop-at.invariant k (omega (arith, less, c.loop-at-test.false)))
