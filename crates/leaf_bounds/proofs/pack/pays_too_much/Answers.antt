use Rattle.std.proofs.Common.{sym, arith}
use Rattle.plan_model.specs.Proofs.{pricing_value}
use Rattle.leaf_bounds.specs.Bases.{chip_of, limits_of, claim_of}
use Rattle.leaf_bounds.specs.PackLeaves.{IsFilling, list_weights}
use Rattle.leaf_bounds.proofs.PackAnswers.{one_greatest, pays_is}
use Rattle.leaf_bounds.proofs.PackSteps.{few_modules_priced}
use Rattle.leaf_bounds.proofs.pack.pays_too_much.Goals as goal

pub price_sum-prices-requires-clause-few : goal.price_sum-prices-requires-clause-few
price_sum-prices-requires-clause-few c = few_modules_priced (pricing_value c.args.pricing.now) c.requires.leaf.setting.basis c.requires.leaf.once

pub returns-clause-yes : goal.returns-clause-yes
returns-clause-yes c = λ e k of. record {
  most = c.most_filled-filled.result;
  greatest = c.most_filled-filled.ensures.most k of;
  more = pays_is c.most_filled-filled.result (claim_of c.args.basis.now) c.from.result _ c.requires.leaf.ready.rooms (omega (arith, c.from.ensures, c.price_sum-prices.ensures.sum))
      (c.self_cost.ensures.cost (list_weights (pricing_value c.args.pricing.now)) c.requires.leaf.ready) (c.is_more.ensures.yes e);
}

pub returns-clause-no : goal.returns-clause-no
returns-clause-no c = λ e k of pays.
    let same = one_greatest (IsFilling (chip_of c.args.basis.now) (limits_of c.args.basis.now).wires (claim_of c.args.basis.now) k (pricing_value c.args.pricing.now)) pays.greatest (c.most_filled-filled.ensures.most k of) in
    let back = pays_is pays.most (claim_of c.args.basis.now) _ c.from.result (sym c.requires.leaf.ready.rooms) (omega (arith, c.from.ensures, c.price_sum-prices.ensures.sum))
    (sym (c.self_cost.ensures.cost (list_weights (pricing_value c.args.pricing.now)) c.requires.leaf.ready)) pays.more in
    c.is_more.ensures.no e (omega (arith, same, back))
