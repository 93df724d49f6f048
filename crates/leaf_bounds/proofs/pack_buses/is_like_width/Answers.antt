use Rattle.std.proofs.Common.{◌<◌, length, refl, sym, subst, ◌∙◌, arith, inl, inr}
use Rattle.std.proofs.lemmas.Bool.{cases_eq}
use Rattle.plan_model.specs.Proofs.{pricing_value}
use Rattle.leaf_bounds.specs.Bases.{chip_of}
use Rattle.leaf_bounds.specs.PackLeaves.{price_at, priced_place}
use Rattle.leaf_bounds.specs.PackBuses.{IsLikeItem}
use Rattle.leaf_bounds.proofs.LikeBuses.{like_most}
use Rattle.leaf_bounds.proofs.Priced.{item_within}
use Rattle.leaf_bounds.proofs.pack_buses.is_like_width.Goals as goal

pub is_like_item-requires-clause-place : goal.is_like_item-requires-clause-place
is_like_item-requires-clause-place c =
    let less : c.loop-item.item < length (pricing_value c.args.pricing.now).prices = omega (arith, c.loop-item-test.true, c.len-item-end.ensures) in
    let place = c.priced_at-priced.ensures.place ∙ c.requires.places c.loop-item.item less in
    omega (arith, place, item_within (pricing_value c.args.pricing.now) c.loop-item.item c.requires.leaf.once less)

pub loop-item-preserved : goal.loop-item-preserved
loop-item-preserved c = λ k of i less. elim (cases_eq i c.loop-item.item) [
  | inr other ↦ c.loop-item.invariant k of i (omega (arith, less, other))
  | inl here ↦
      let within : c.loop-item.item < length (pricing_value c.args.pricing.now).prices = omega (arith, c.loop-item-test.true, c.len-item-end.ensures) in
      let place = c.priced_at-priced.ensures.place ∙ c.requires.places c.loop-item.item within in
      let price = c.priced_at-priced.ensures.price in
      let like = c.if-not-is_like_item.ensures refl k (pricing_value c.args.pricing.now) of refl c.requires.leaf.ready in
      subst (λ n. IsLikeItem c.args.basis.now k (pricing_value c.args.pricing.now) (priced_place (chip_of c.args.basis.now) (pricing_value c.args.pricing.now) n) (price_at (pricing_value c.args.pricing.now) n) c.args.bus.rank c.args.bus.width c.args.bus.rank c.args.before) (sym here)
      (subst (λ n. IsLikeItem c.args.basis.now k (pricing_value c.args.pricing.now) (priced_place (chip_of c.args.basis.now) (pricing_value c.args.pricing.now) c.loop-item.item) n c.args.bus.rank c.args.bus.width c.args.bus.rank c.args.before) price
      (subst (λ p. IsLikeItem c.args.basis.now k (pricing_value c.args.pricing.now) p c.priced_at-priced.result.price c.args.bus.rank c.args.bus.width c.args.bus.rank c.args.before) place like))
]

pub returns : goal.returns
returns c = λ e k of. like_most c.args.basis.now k (pricing_value c.args.pricing.now) c.args.bus.rank c.args.bus.width c.args.bus.rank c.args.before
    (λ i less. c.loop-item.invariant k of i (omega (arith, less, c.loop-item-test.false, c.loop-item.auto.item-end, c.len-item-end.ensures)))
