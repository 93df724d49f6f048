use Rattle.std.proofs.Common.{Some, length, refl, sym, ap, subst, ◌∙◌, arith}
use Rattle.std.specs.Vec.{with_item}
use Rattle.plan_model.specs.Proofs.{pricing_value}
use Rattle.leaf_bounds.specs.PackBuses.{AreKept}
use Rattle.leaf_bounds.proofs.LikeBuses.{one_kept}
use Rattle.leaf_bounds.proofs.PackSteps.{bus_most-le}
use Rattle.leaf_bounds.proofs.pack_buses.kept_worth.Goals as goal

pub returns-clause-small : goal.returns-clause-small
returns-clause-small c =
    let k = c.requires.leaf.setting.known in
    let few = bus_most-le c.args.basis.now k.0 c.args.bus.rank c.args.bus.width c.requires.leaf.setting.basis c.requires.leaf.once c.requires.leaf.prices in
    omega (arith, c.found_worth-worth.ensures.worth k.0 k.1, few)

pub returns-clause-kept : goal.returns-clause-kept
returns-clause-kept c =
    let long = ap (λ k. length k.worths.items) c.found_worth-worth.ensures.kept in
    let rank = ap (λ k. k.rank) c.found_worth-worth.ensures.kept ∙ c.requires.rank in
    one_kept c.args.basis.now c.args.case.now (pricing_value c.args.pricing.now) c.found_worth-worth.new.room.kept
    (record { rank = c.found_worth-worth.new.room.kept.rank; worths = with_item c.found_worth-worth.new.room.kept.worths c.args.bus.width (Some c.found_worth-worth.result) }) c.args.bus.width c.found_worth-worth.result (subst (AreKept c.args.basis.now c.args.case.now (pricing_value c.args.pricing.now)) (sym c.found_worth-worth.ensures.kept) c.requires.kept)
    rank rank (omega (arith, long, c.requires.room.kept, c.requires.width)) refl c.found_worth-worth.ensures.worth
