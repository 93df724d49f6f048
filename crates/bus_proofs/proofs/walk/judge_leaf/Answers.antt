use Rattle.std.proofs.Common.{refl, ap, length}
use Rattle.plan_model.specs.Proofs.{OfSum, weights_value}
use Rattle.bus_proofs.proofs.ProofChecks.{fits_after}
use Rattle.bus_proofs.proofs.walk.judge_leaf.Goals as goal

pub check_leaf-answer-requires-clause-few : goal.check_leaf-answer-requires-clause-few
check_leaf-answer-requires-clause-few c = (c.requires.leaves c.args.place (OfSum (weights_value c.args.weights.now)) c.requires.node).few

pub check_leaf-answer-requires-clause-space : goal.check_leaf-answer-requires-clause-space
check_leaf-answer-requires-clause-space c = (c.requires.leaves c.args.place (OfSum (weights_value c.args.weights.now)) c.requires.node).space

pub returns-clause-judged : goal.returns-clause-judged
returns-clause-judged c = λ e is.
    c.judge_answer.ensures.judged c.args.basis.now c.args.leaf.now.pack.work e (OfSum (weights_value c.args.weights.now)) refl (c.check_leaf-answer.ensures.answer e is)

pub returns-clause-leaves : goal.returns-clause-leaves
returns-clause-leaves c =
    fits_after c.args.leaf.now c.requires.leaves c.check_leaf-answer.ensures.space (ap (λ p. length p.bus.places.items) c.check_leaf-answer.ensures.pack)
