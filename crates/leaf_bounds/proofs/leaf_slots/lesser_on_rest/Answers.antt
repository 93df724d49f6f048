use Rattle.std.proofs.Common.{◌∙◌, ap, arith}
use Rattle.plan_model.specs.Proofs.{weights_value}
use Rattle.leaf_bounds.specs.Bases.{chip_of, limits_of, claim_of}
use Rattle.leaf_bounds.specs.LeafSlots.{IsOfRest, costs_at, rest_range}
use Rattle.leaf_bounds.proofs.LeafSlots.{may_rest_is, none_lesser, rest_skipped, rest_tried}
use Rattle.leaf_bounds.proofs.leaf_slots.lesser_on_rest.Goals as goal

pub returns-then-not-is_left-clause-least : goal.returns-then-not-is_left-clause-least
returns-then-not-is_left-clause-least c = λ k of.
    none_lesser (costs_at c.args.basis.now (weights_value c.args.weights.now) c.args.place) (IsOfRest (chip_of c.args.basis.now) (limits_of c.args.basis.now).wires (claim_of c.args.basis.now) k (weights_value c.args.weights.now) c.args.place) c.args.least
    (rest_skipped (costs_at c.args.basis.now (weights_value c.args.weights.now) c.args.place) (chip_of c.args.basis.now) (limits_of c.args.basis.now).wires (claim_of c.args.basis.now) k (weights_value c.args.weights.now) c.args.place
    (may_rest_is c.args.place of (omega (arith, c.requires.place, c.requires.of.modules)) c.is_left.ensures ∙ cc))

pub returns-clause-least : goal.returns-clause-least
returns-clause-least c = λ k of.
    let x = c.lesser_in_range.ensures.least (weights_value c.args.weights.now) c.requires.weighed in
    record {
      own = x.own;
      own_is = rest_tried (costs_at c.args.basis.now (weights_value c.args.weights.now) c.args.place) (chip_of c.args.basis.now) (limits_of c.args.basis.now).wires (claim_of c.args.basis.now) k (weights_value c.args.weights.now) c.args.place x.own
          (may_rest_is c.args.place of (omega (arith, c.requires.place, c.requires.of.modules)) c.is_left.ensures ∙ cc)
          (c.rest_range-range.ensures k of ∙ ap (λ w. rest_range w k (weights_value c.args.weights.now)) c.requires.of.wires)
          x.own_is;
      is = x.is;
    }

pub lesser_in_range-requires-clause-weighed : goal.lesser_in_range-requires-clause-weighed
lesser_in_range-requires-clause-weighed c = (weights_value c.args.weights.now, c.requires.weighed)
