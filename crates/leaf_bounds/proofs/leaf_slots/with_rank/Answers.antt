use Rattle.std.proofs.Common.{◌∙◌}
use Rattle.plan_model.specs.Proofs.{weights_value}
use Rattle.leaf_bounds.proofs.LeafSlots.{may_is}
use Rattle.leaf_bounds.proofs.LeafAnswers.{kept_off, one_tried, passed}
use Rattle.leaf_bounds.proofs.leaf_slots.with_rank.Goals as goal

pub returns-then-not-may_be_on-clause-tried : goal.returns-then-not-may_be_on-clause-tried
returns-then-not-may_be_on-clause-tried c = λ k of.
    kept_off c.args.weighed.now c.args.rank c.args.tried
    (may_is c.args.rank of c.requires.at c.requires.modules c.requires.known_are c.requires.rank c.may_be_on.ensures ∙ cc) (c.requires.tried k of)

pub returns-then-is_passed-clause-tried : goal.returns-then-is_passed-clause-tried
returns-then-is_passed-clause-tried c = λ k of.
    let p = c.is_passed.ensures c.if-is_passed.true in
    passed c.args.weighed.now c.args.rank c.args.tried c.requires.weighed p.1 (c.rank_range-range.ensures.range k of) p.2 (c.requires.tried k of)

pub returns-clause-tried : goal.returns-clause-tried
returns-clause-tried c = λ k of.
    one_tried c.args.weighed.now c.args.rank c.args.tried c.to_compare.result
    (may_is c.args.rank of c.requires.at c.requires.modules c.requires.known_are c.requires.rank c.may_be_on.ensures ∙ cc)
    (c.rank_range-range.ensures.range k of) (c.lesser_in_range.ensures.least (weights_value c.args.weights.now) c.requires.weighed) (rw c.deref.ensures.value at c.to_compare.ensures) (c.requires.tried k of)

pub lesser_in_range-requires-clause-weighed : goal.lesser_in_range-requires-clause-weighed
lesser_in_range-requires-clause-weighed c = (weights_value c.args.weights.now, c.requires.weighed)
