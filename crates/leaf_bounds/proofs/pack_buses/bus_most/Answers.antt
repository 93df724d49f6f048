use Rattle.std.proofs.Common.{◌≡◌, ◌+◌, ◌-◌, length, refl, sym, ap, ◌∙◌, arith, slice_index}
use Rattle.std.proofs.lemmas.List.{get_or_default, with_items_is}
use Rattle.plan_model.specs.Proofs.{pricing_value}
use Rattle.leaf_bounds.specs.Bases.{claim_of}
use Rattle.leaf_bounds.specs.PackLeaves.{cells_of}
use Rattle.leaf_bounds.specs.PackBuses.{most_of}
use Rattle.leaf_bounds.proofs.Priced.{item_within}
use Rattle.leaf_bounds.proofs.PackSteps.{bus_most-le, few_modules_priced, most-le, row_more, row_none}
use Rattle.leaf_bounds.proofs.pack_buses.bus_most.Goals as goal

pub overflow_add-end : goal.overflow_add-end
overflow_add-end c =
    omega (arith, c.cells_of.ensures (pricing_value c.args.pricing.now) refl, c.requires.leaf.few)

pub clear_row-requires : goal.clear_row-requires
clear_row-requires c =
    let cells = c.cells_of.ensures (pricing_value c.args.pricing.now) refl in
    record { within = omega (arith, cells, c.requires.leaf.few, ap length c.deref_mut.ensures.value, c.requires.room.cells) }

pub loop-item-init : goal.loop-item-init
loop-item-init c =
    let long = ap length c.deref_mut.ensures.value in
    let items = with_items_is c.args.room.now.cells c.clear_row.new.row (omega (arith, c.clear_row.ensures.long, long, c.args.room.now.cells.ok.0)) in
    record {
      room = record { cells = ap length items ∙ c.clear_row.ensures.long ∙ long ∙ c.requires.room.cells; long = c.requires.room.long; places = c.requires.room.places };
      places = refl;
      row = λ k of x less. ap (λ l. slice_index l x) items ∙ c.clear_row.ensures.row x less ∙ row_none c.args.basis.now k (pricing_value c.args.pricing.now) c.args.bus.rank c.args.bus.width x;
    }

pub add_priced-requires-clause-place : goal.add_priced-requires-clause-place
add_priced-requires-clause-place c =
    let place =
    c.priced_at-priced.ensures.place ∙ ap (λ l. slice_index l c.loop-item.item) c.deref.ensures.value ∙ c.loop-item.invariant.room.places c.loop-item.item (omega (arith, c.loop-item-test.true, c.len-item-end.ensures)) in
    let within = item_within (pricing_value c.args.pricing.now) c.loop-item.item c.requires.leaf.once (omega (arith, c.loop-item-test.true, c.len-item-end.ensures)) in
    omega (arith, place, within)

pub add_priced-requires-clause-small : goal.add_priced-requires-clause-small
add_priced-requires-clause-small c = λ x less.
    let cells = c.cells_of.ensures (pricing_value c.args.pricing.now) refl in
    let k = c.requires.leaf.setting.known in
    let now = c.loop-item.invariant.row k.0 k.1 x (omega (arith, less, cells)) in
    let at = ap (λ l. slice_index l x) c.deref_mut-in-loop-item.ensures.value in
    let most = most-le c.args.basis.now k.0 c.args.bus.rank c.args.bus.width c.loop-item.item x c.requires.leaf.prices in
    let few = few_modules_priced (pricing_value c.args.pricing.now) c.requires.leaf.setting.basis c.requires.leaf.once in
    omega (arith, now, at, most, few, c.priced_at-priced.ensures.small, c.loop-item-test.true, c.len-item-end.ensures)

pub loop-item-preserved : goal.loop-item-preserved
loop-item-preserved c =
    let long = ap length c.deref_mut-in-loop-item.ensures.value in
    let cells = c.cells_of.ensures (pricing_value c.args.pricing.now) refl in
    let items = with_items_is c.loop-item.room.cells c.add_priced.new.row (omega (arith, c.add_priced.ensures.long, long, c.loop-item.room.cells.ok.0)) in
    let room = c.loop-item.invariant.room in
    let place =
    c.priced_at-priced.ensures.place ∙ ap (λ l. slice_index l c.loop-item.item) c.deref.ensures.value ∙ c.loop-item.invariant.room.places c.loop-item.item (omega (arith, c.loop-item-test.true, c.len-item-end.ensures)) in
    record {
      room = record { cells = ap length items ∙ c.add_priced.ensures.long ∙ long ∙ room.cells; long = room.long; places = room.places };
      places = c.loop-item.invariant.places;
      row = λ k of x less. ap (λ l. slice_index l x) items
          ∙ row_more c.args.basis.now k (pricing_value c.args.pricing.now) c.args.bus.rank c.args.bus.width c.loop-item.item
          (slice_index c.deref_mut-in-loop-item.result.now) (slice_index c.add_priced.new.row) (c.cells_of.result + 1) place c.priced_at-priced.ensures.price
          (λ y l. ap (λ xs. slice_index xs y) c.deref_mut-in-loop-item.ensures.value ∙ c.loop-item.invariant.row k of y l)
          (λ y l. c.add_priced.ensures.row k (pricing_value c.args.pricing.now) of refl c.requires.leaf.ready y (omega (arith, l, cells))) x less;
    }

pub index-requires : goal.index-requires
index-requires c =
    let cells = c.cells_of.ensures (pricing_value c.args.pricing.now) refl in
    omega (arith, cells, c.requires.leaf.few, c.loop-item.invariant.room.cells, c.loop-item.room.cells.ok.0)

pub returns-clause-most : goal.returns-clause-most
returns-clause-most c = λ k of.
    let cells = c.cells_of.ensures (pricing_value c.args.pricing.now) refl in
    let end : c.loop-item.item ≡ length (pricing_value c.args.pricing.now).prices = omega (arith, c.loop-item-test.false, c.loop-item.auto.item-end, c.len-item-end.ensures) in
    let last : c.cells_of.result + 1 - 1 ≡ cells_of (claim_of c.args.basis.now) (pricing_value c.args.pricing.now) = omega (arith, cells) in
    let here = c.loop-item.invariant.row k of (c.cells_of.result + 1 - 1) (omega arith) in
    let read =
    sym (get_or_default c.loop-item.room.cells.items (c.cells_of.result + 1 - 1) 0 c.index.result.now (omega (arith, cells, c.requires.leaf.few, c.loop-item.invariant.room.cells)) ∙ sym c.index.ensures) in
    read ∙ here ∙ ap (λ n. most_of c.args.basis.now k (pricing_value c.args.pricing.now) c.args.bus.rank c.args.bus.width n (c.cells_of.result + 1 - 1)) end
    ∙ ap (most_of c.args.basis.now k (pricing_value c.args.pricing.now) c.args.bus.rank c.args.bus.width (length (pricing_value c.args.pricing.now).prices)) last

pub returns-clause-small : goal.returns-clause-small
returns-clause-small c =
    let k = c.requires.leaf.setting.known in
    let few = bus_most-le c.args.basis.now k.0 c.args.bus.rank c.args.bus.width c.requires.leaf.setting.basis c.requires.leaf.once c.requires.leaf.prices in
    omega (arith, returns-clause-most c k.0 k.1, few)
