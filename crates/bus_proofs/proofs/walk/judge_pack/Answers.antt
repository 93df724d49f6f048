use Rattle.std.proofs.Common.{refl}
use Rattle.plan_model.specs.Proofs.{OfPack, pricing_value}
use Rattle.bus_proofs.proofs.ProofChecks.{fits_after}
use Rattle.bus_proofs.proofs.walk.judge_pack.Goals as goal

pub check_pack-answer-requires-clause-few : goal.check_pack-answer-requires-clause-few
check_pack-answer-requires-clause-few c = (c.requires.leaves c.args.place (OfPack (pricing_value c.args.pricing.now)) c.requires.node).few

pub check_pack-answer-requires-clause-places : goal.check_pack-answer-requires-clause-places
check_pack-answer-requires-clause-places c = (c.requires.leaves c.args.place (OfPack (pricing_value c.args.pricing.now)) c.requires.node).places

pub check_pack-answer-requires-clause-space : goal.check_pack-answer-requires-clause-space
check_pack-answer-requires-clause-space c = (c.requires.leaves c.args.place (OfPack (pricing_value c.args.pricing.now)) c.requires.node).space

pub returns-clause-judged : goal.returns-clause-judged
returns-clause-judged c = λ e is.
    c.judge_answer.ensures.judged c.args.basis.now c.args.leaf.now.pack.work e (OfPack (pricing_value c.args.pricing.now)) refl (c.check_pack-answer.ensures.answer e is)

pub returns-clause-leaves : goal.returns-clause-leaves
returns-clause-leaves c =
    fits_after c.args.leaf.now c.requires.leaves c.check_pack-answer.ensures.space c.check_pack-answer.ensures.long
