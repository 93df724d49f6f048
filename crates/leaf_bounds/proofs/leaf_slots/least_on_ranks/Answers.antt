use Rattle.std.proofs.Common.{◌≡◌, length, ap, subst, arith}
use Rattle.plan_model.specs.Proofs.{weights_value}
use Rattle.leaf_bounds.specs.Cases.{known_ranks}
use Rattle.leaf_bounds.specs.Bases.{chip_of, claim_of}
use Rattle.leaf_bounds.specs.LeafSlots.{IsLeastOf, IsOfRanks, costs_at}
use Rattle.leaf_bounds.proofs.LeafAnswers.{none_tried}
use Rattle.leaf_bounds.proofs.leaf_slots.least_on_ranks.Goals as goal

pub loop-rank-init : goal.loop-rank-init
loop-rank-init c = record {
  tried = λ k of. none_tried c.args.basis.now k (weights_value c.args.weights.now) c.args.weighed.now c.args.place;
  small = tt;
}

pub returns-clause-least : goal.returns-clause-least
returns-clause-least c = λ k of.
    let long = ap length of.intervals in
    let end : c.loop-rank.rank ≡ known_ranks k = omega (arith, c.loop-rank-test.false, c.loop-rank.auto.rank-end, c.known_ranks-known.ensures, long) in
    subst (λ n. IsLeastOf (costs_at c.args.basis.now (weights_value c.args.weights.now) c.args.place) (IsOfRanks (chip_of c.args.basis.now) (claim_of c.args.basis.now) k (weights_value c.args.weights.now) c.args.place n) c.loop-rank.tried.least) end
    (c.loop-rank.invariant.tried k of).least
