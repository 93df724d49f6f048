use Rattle.std.proofs.Common.{◌≡◌, length, ap, sym, subst, ◌∙◌, arith}
use Rattle.std.proofs.lemmas.List.{with_items_is}
use Rattle.std.specs.Vec.{vec_len}
use Rattle.leaf_bounds.specs.Bases.{lists_of}
use Rattle.leaf_bounds.specs.LeafCosts.{AreTotals}
use Rattle.leaf_bounds.proofs.Totals.{totals_zero, small_uses, few_for, weighed_room}
use Rattle.leaf_bounds.proofs.leaf_costs.weigh_leaf.Goals as goal

pub add_up-requires-clause-none : goal.add_up-requires-clause-none
add_up-requires-clause-none c = totals_zero (vec_len c.args.room.now.totals) (c.deref_mut.ensures.value ∙ c.fill.ensures.items (λ y e. e))

pub weigh_totals-requires-clause-few : goal.weigh_totals-requires-clause-few
weigh_totals-requires-clause-few c =
    let w = c.requires.uses.0 in
    let own = ap (λ v. v.items) c.clear_weighed.ensures.totals ∙ with_items_is c.fill.new.self c.add_up.new.totals (omega (arith, c.add_up.ensures.long, c.deref_mut.ensures.len)) in
    let long : length c.add_up.new.totals ≡ length (lists_of c.args.basis.now) = omega (arith, c.add_up.ensures.long, c.deref_mut.ensures.len, c.fill.ensures.len, c.args.room.now.totals.ok.0, c.requires.space.totals) in
    let are = subst (λ os. AreTotals os c.add_up.new.totals) (sym c.requires.uses.1) c.add_up.ensures.totals in
    few_for (c.requires.uses.0).lists own long (small_uses (c.requires.uses.2).small) (c.requires.uses.2).few are

pub returns-clause-weighed : goal.returns-clause-weighed
returns-clause-weighed c = λ w same uses.
    let own = ap (λ v. v.items) c.clear_weighed.ensures.totals ∙ with_items_is c.fill.new.self c.add_up.new.totals (omega (arith, c.add_up.ensures.long, c.deref_mut.ensures.len)) in
    let long : length c.add_up.new.totals ≡ length (lists_of c.args.basis.now) = omega (arith, c.add_up.ensures.long, c.deref_mut.ensures.len, c.fill.ensures.len, c.args.room.now.totals.ok.0, c.requires.space.totals) in
    let are = subst (λ os. AreTotals os c.add_up.new.totals) (sym same) c.add_up.ensures.totals in
    weighed_room own long uses are c.weigh_totals.ensures.made
