use Rattle.std.proofs.Common.{◌≡◌, ◌+◌, ◌≤◌, ◌<◌, ◌++◌, ◌∷◌, [], ◌^◌, ◌*◌, length, sym, ap, subst, ◌∙◌, arith, slice_index}
use Rattle.std.proofs.lemmas.List.{length-map}
use Rattle.plan_model.specs.Proofs.{list_value}
use Rattle.leaf_bounds.specs.Bases.{lists_of}
use Rattle.leaf_bounds.specs.LeafCosts.{IsMade, all_weights, by_places}
use Rattle.leaf_bounds.proofs.Totals.{fewer_weights, few_places, places_more}
use Rattle.leaf_bounds.proofs.leaf_costs.weigh_totals.Goals as goal

pub weigh_total-requires-clause-made : goal.weigh_total-requires-clause-made
weigh_total-requires-clause-made c =
    let less : c.loop-list.list < length (lists_of c.args.basis.now) = omega (arith, c.loop-list-test.true, c.len-list-end.ensures, length-map c.args.basis.now.proof.now.lists.items list_value) in
    let now : slice_index c.loop-list.room.totals.items c.loop-list.list ≡ slice_index c.args.room.now.totals.items c.loop-list.list = ap (λ v. slice_index v.items c.loop-list.list) c.loop-list.invariant.totals in
    let fits : all_weights (by_places c.args.room.now.totals.items c.loop-list.list) + slice_index c.loop-list.room.totals.items c.loop-list.list ≤ 2 ^ 24 * 10 ^ 9 =
    omega (arith, now, fewer_weights c.args.room.now.totals.items c.loop-list.list (length (lists_of c.args.basis.now)) less, c.requires.few) in
    (by_places c.args.room.now.totals.items c.loop-list.list, c.loop-list.invariant.made, fits)

pub weigh_total-requires-clause-beside : goal.weigh_total-requires-clause-beside
weigh_total-requires-clause-beside c =
    let less : c.loop-list.list < length (lists_of c.args.basis.now) = omega (arith, c.loop-list-test.true, c.len-list-end.ensures, length-map c.args.basis.now.proof.now.lists.items list_value) in
    omega (arith, less, c.loop-list.invariant.made.beside, few_places c.args.room.now.totals.items c.loop-list.list, c.requires.space.beside, c.loop-list.invariant.beside)

pub weigh_total-requires-clause-power : goal.weigh_total-requires-clause-power
weigh_total-requires-clause-power c =
    let less : c.loop-list.list < length (lists_of c.args.basis.now) = omega (arith, c.loop-list-test.true, c.len-list-end.ensures, length-map c.args.basis.now.proof.now.lists.items list_value) in
    omega (arith, less, c.loop-list.invariant.made.power, few_places c.args.room.now.totals.items c.loop-list.list, c.requires.space.power, c.loop-list.invariant.power)

pub loop-list-preserved : goal.loop-list-preserved
loop-list-preserved c =
    let now : slice_index c.loop-list.room.totals.items c.loop-list.list ≡ slice_index c.args.room.now.totals.items c.loop-list.list = ap (λ v. slice_index v.items c.loop-list.list) c.loop-list.invariant.totals in
    record {
      made = subst (λ os. IsMade c.args.basis.now os c.weigh_total.new.room) (sym (places_more c.args.room.now.totals.items c.loop-list.list))
          (subst (λ y. IsMade c.args.basis.now (by_places c.args.room.now.totals.items c.loop-list.list ++ (c.loop-list.list, y) ∷ []) c.weigh_total.new.room) now
          (c.weigh_total.ensures.made (by_places c.args.room.now.totals.items c.loop-list.list) c.loop-list.invariant.made));
      totals = c.weigh_total.ensures.totals ∙ c.loop-list.invariant.totals;
      beside = c.weigh_total.ensures.beside ∙ c.loop-list.invariant.beside;
      power = c.weigh_total.ensures.power ∙ c.loop-list.invariant.power;
    }

pub returns-clause-made : goal.returns-clause-made
returns-clause-made c =
    let all : c.loop-list.list ≡ length (lists_of c.args.basis.now) = omega (arith, c.loop-list-test.false, c.loop-list.auto.list-end, c.len-list-end.ensures, length-map c.args.basis.now.proof.now.lists.items list_value) in
    subst (λ n. IsMade c.args.basis.now (by_places c.args.room.now.totals.items n) c.loop-list.room) all c.loop-list.invariant.made
