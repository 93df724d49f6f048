use Rattle.std.proofs.Common.{◌*◌, ◌∙◌, ap, rules}
use Rattle.plan_model.specs.Proofs.{weights_value}
use Rattle.leaf_bounds.specs.Cases.{spare}
use Rattle.leaf_bounds.specs.Bases.{limits_of, lists_of}
use Rattle.leaf_bounds.proofs.LeafAnswers.{worth_is}
use Rattle.leaf_bounds.proofs.leaf_sums.worth_of_cycle.Goals as goal

pub returns-clause-worth : goal.returns-clause-worth
returns-clause-worth c = λ k of.
    let same = c.spare_wires.ensures ∙ ap (λ w. spare w c.args.case.now.widths.intervals.items) c.requires.of.wires ∙ ap (spare (limits_of c.args.basis.now).wires) of.intervals in
    worth_is (limits_of c.args.basis.now).wires (lists_of c.args.basis.now) k (weights_value c.args.weights.now) c.rank_sum-ranks.result
    (search rules) (ap (λ n. c.args.weights.now.wire * n) same) c.requires.weighed.rooms
