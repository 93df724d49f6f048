use Rattle.std.proofs.Common.{sym, subst}
use Rattle.plan_model.specs.Proofs.{weights_value}
use Rattle.leaf_bounds.specs.Bases.{chip_of, limits_of, claim_of}
use Rattle.leaf_bounds.specs.LeafSlots.{IsLeastOf, IsOfModule, costs_at}
use Rattle.leaf_bounds.proofs.LeafSlots.{module_joined}
use Rattle.leaf_bounds.proofs.leaf_slots.least_cost.Goals as goal

pub returns-clause-least : goal.returns-clause-least
returns-clause-least c = λ k of.
    let rest = c.lesser_on_rest.ensures.least k of in
    subst (IsLeastOf (costs_at c.args.basis.now (weights_value c.args.weights.now) c.args.place) (IsOfModule (chip_of c.args.basis.now) (limits_of c.args.basis.now).wires (claim_of c.args.basis.now) k (weights_value c.args.weights.now) c.args.place)) (sym rest.is)
    (module_joined (costs_at c.args.basis.now (weights_value c.args.weights.now) c.args.place) (chip_of c.args.basis.now) (limits_of c.args.basis.now).wires (claim_of c.args.basis.now) k (weights_value c.args.weights.now) c.args.place
    c.least_on_ranks-known.result rest.own (c.least_on_ranks-known.ensures.least k of) rest.own_is)
