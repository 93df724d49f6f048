use Rattle.std.proofs.Common.{refl, sym, ap, subst, ◌∙◌, arith, length}
use Rattle.plan_model.specs.Proofs.{pricing_value, WeightsValue}
use Rattle.leaf_bounds.specs.Cases.{IsEmpty}
use Rattle.leaf_bounds.specs.LeafAnswers.{no_weights}
use Rattle.leaf_bounds.specs.PackLeaves.{list_weights}
use Rattle.leaf_bounds.proofs.PackAnswers.{found_no_bus, found_short, no_uses, pack_uses}
use Rattle.leaf_bounds.proofs.pack.check_pack.Goals as goal

pub weigh_leaf-requires-clause-uses : goal.weigh_leaf-requires-clause-uses
weigh_leaf-requires-clause-uses c = (
  no_weights,
  sym (c.deref.ensures.value ∙ ap (λ (w : WeightsValue). w.lists) c.requires.space.nothing),
  no_uses c.args.basis.now,
)

pub returns-then-not-all_have_slots-clause-answer : goal.returns-then-not-all_have_slots-clause-answer
returns-then-not-all_have_slots-clause-answer c = λ k of.
    found_no_bus c.args.basis.now c.args.room.now.pack.work k (pricing_value c.args.pricing.now) (c.if-not-keeps_rule.ensures.yes refl k of) (c.if-not-all_have_slots.ensures.no refl k of)

pub weigh_leaf-requires-2-clause-uses : goal.weigh_leaf-requires-2-clause-uses
weigh_leaf-requires-2-clause-uses c =
    let k = c.requires.known in
    let rule = c.if-not-keeps_rule.ensures.yes refl k.0 k.1 in (
      list_weights (pricing_value c.args.pricing.now),
      sym c.deref-2.ensures.value,
      pack_uses c.args.basis.now k.0 rule.named c.requires.prices (omega (arith, c.requires.few)),
    )

pub pays_too_much-requires-clause-leaf : goal.pays_too_much-requires-clause-leaf
pays_too_much-requires-clause-leaf c =
    let k = c.requires.known in
    let rule = c.if-not-keeps_rule.ensures.yes refl k.0 k.1 in
    let uses = pack_uses c.args.basis.now k.0 rule.named c.requires.prices (omega (arith, c.requires.few)) in
    let ready = c.weigh_leaf-2.ensures.weighed (list_weights (pricing_value c.args.pricing.now)) (sym c.deref-2.ensures.value) uses in
    record {
      setting = record {
        basis = c.requires.basis;
        kept = c.requires.kept;
        case_is = c.requires.case;
        of = c.requires.of;
        known = c.requires.known;
        some = c.requires.prices.grain;
        weighed = (list_weights (pricing_value c.args.pricing.now), ready);
      };
      prices = c.requires.prices;
      once = rule.modules;
      few = rule.few;
      ready = ready;
    }

pub returns-then-pays_too_much-clause-long : goal.returns-then-pays_too_much-clause-long
returns-then-pays_too_much-clause-long c = ap (λ v. length v.items) c.if-pays_too_much.ensures.places ∙ c.keeps_rule.ensures.long

pub returns-clause-answer : goal.returns-clause-answer
returns-clause-answer c = λ k of.
    found_short c.args.basis.now c.args.room.now.pack.work k (pricing_value c.args.pricing.now) (c.if-not-keeps_rule.ensures.yes refl k of)
    (subst (λ w. IsEmpty w k → ⊥) c.requires.of.wires (c.if-is_empty.ensures.no refl k (sym of.intervals)))
    (c.if-not-all_have_slots.ensures.yes refl k of) (c.if-pays_too_much.ensures.no refl k of)

pub returns-clause-long : goal.returns-clause-long
returns-clause-long c = ap (λ v. length v.items) c.if-pays_too_much.ensures.places ∙ c.keeps_rule.ensures.long
