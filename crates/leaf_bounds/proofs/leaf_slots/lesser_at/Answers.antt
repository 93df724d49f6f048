use Rattle.std.proofs.Common.{◌≡◌, ◌*◌, ◌≤◌, None, Some, sym, ap, ◌∙◌, arith}
use Rattle.proof_facts.specs.Packed.{packed_tam_time}
use Rattle.leaf_bounds.specs.Bases.{chip_of, claim_of}
use Rattle.leaf_bounds.specs.Leaves.{slot}
use Rattle.leaf_bounds.specs.LeafCosts.{LEAF_COST_MOST}
use Rattle.leaf_bounds.specs.LeafSlots.{costs_at, range_slot}
use Rattle.leaf_bounds.proofs.LeafSlots.{alone, lesser_small, no_lesser}
use Rattle.leaf_bounds.proofs.leaf_slots.lesser_at.Goals as goal

pub returns-then-not-is_short-clause-cost : goal.returns-then-not-is_short-clause-cost
returns-then-not-is_short-clause-cost c = λ weights is. record {
  own = None;
  own_is = sym c.is_short.ensures ∙ cc;
  is = alone c.args.least;
}

pub returns-then-is_no_less-clause-cost : goal.returns-then-is_no_less-clause-cost
returns-then-is_no_less-clause-cost c = λ weights is.
    let short = sym c.is_short.ensures ∙ c.if-not-is_short.false in
    let less = c.is_no_less.ensures c.if-is_no_less.true in
    let time : c.rated-time.result ≡ c.rate_of-rate.result * packed_tam_time (chip_of c.args.basis.now) c.args.place c.args.width = c.rated-time.ensures.rated ∙ ap (λ t. c.rate_of-rate.result * t) (rw c.requires.basis.times at c.tam_time.ensures.time) in
    let rate = c.rate_of-rate.ensures.rate in
    let low : less.0 ≤ costs_at c.args.basis.now weights c.args.place (range_slot c.args.range c.args.width) = rw (← rate) (omega (arith, less.2, time)) in
    no_lesser (costs_at c.args.basis.now weights c.args.place) (chip_of c.args.basis.now) (claim_of c.args.basis.now) c.args.place (range_slot c.args.range c.args.width) short less.1 low

pub returns-clause-cost : goal.returns-clause-cost
returns-clause-cost c = λ weights is. record {
  own = Some c.module_cost-cost.result;
  own_is = (sym c.is_short.ensures ∙ c.if-not-is_short.false, ap (λ r. costs_at c.args.basis.now weights c.args.place (slot c.args.range.rank c.args.width r)) (sym c.rate_of-rate.ensures.rate) ∙ sym (c.module_cost-cost.ensures.cost weights is));
  is = c.lesser.ensures;
}

pub returns-clause-small : goal.returns-clause-small
returns-clause-small c = rw c.lesser.ensures (lesser_small c.args.least (Some c.module_cost-cost.result) LEAF_COST_MOST c.requires.few c.module_cost-cost.ensures.small)
