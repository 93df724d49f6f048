use Rattle.std.proofs.Common.{◌≡◌, ◌-◌, ◌/◌, [], refl, arith, slice_index}
use Rattle.leaf_bounds.specs.Bases.{claim_of}
use Rattle.leaf_bounds.proofs.PackSteps.{item_is}
use Rattle.leaf_bounds.proofs.pack_buses.add_priced.Goals as goal

pub overflow_add-end : goal.overflow_add-end
overflow_add-end c =
    let cells : c.cells_of.result ≡ (claim_of c.args.basis.now - 1) / c.args.grain = c.cells_of.ensures (record { grain = c.args.grain; prices = []; lists = [] }) refl in
    omega (arith, cells, c.requires.few)

pub add_item-requires-clause-within : goal.add_item-requires-clause-within
add_item-requires-clause-within c =
    let cells : c.cells_of.result ≡ (claim_of c.args.basis.now - 1) / c.args.grain = c.cells_of.ensures (record { grain = c.args.grain; prices = []; lists = [] }) refl in
    omega (arith, cells, c.requires.room)

pub add_item-requires-clause-small : goal.add_item-requires-clause-small
add_item-requires-clause-small c = λ x less.
    let cells : c.cells_of.result ≡ (claim_of c.args.basis.now - 1) / c.args.grain = c.cells_of.ensures (record { grain = c.args.grain; prices = []; lists = [] }) refl in
    omega (arith, c.requires.small x (omega (arith, cells, less)), c.net_worth-net.ensures.small)

pub returns-clause-row : goal.returns-clause-row
returns-clause-row c = λ k pricing of same ready x less.
    let cells : c.cells_of.result ≡ (claim_of c.args.basis.now - 1) / c.args.grain = c.cells_of.ensures (record { grain = c.args.grain; prices = []; lists = [] }) refl in
    item_is (slice_index c.args.row.now) x
    (c.if-not-has_slot.ensures k of) (c.cells_taken-cells.ensures pricing same) (c.net_worth-net.ensures.net k pricing of ready) (c.add_item.ensures.row x (omega (arith, cells, less)))
