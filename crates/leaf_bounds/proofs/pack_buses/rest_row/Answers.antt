use Rattle.std.proofs.Common.{◌+◌, length, sym, ap, subst, ◌∙◌, arith, slice_index}
use Rattle.std.proofs.lemmas.List.{with_items_is}
use Rattle.plan_model.specs.Proofs.{pricing_value}
use Rattle.leaf_bounds.specs.Cases.{known_ranks, spare}
use Rattle.leaf_bounds.specs.Leaves.{rest_high}
use Rattle.leaf_bounds.specs.PackBuses.{IsWiresRow, bus_most}
use Rattle.leaf_bounds.proofs.PackSteps.{rest_rows}
use Rattle.leaf_bounds.proofs.pack_buses.rest_row.Goals as goal

pub returns-clause-row : goal.returns-clause-row
returns-clause-row c = λ k of.
    let long = ap length c.deref_mut.ensures.value in
    let items = with_items_is c.note_worths.new.room.wires c.fill_rest.new.row (omega (arith, c.fill_rest.ensures.long, long, c.note_worths.new.room.wires.ok.0)) in
    let known = c.known_ranks-known.ensures ∙ ap length of.intervals in
    let high = c.rest_high-high.ensures k of ∙ ap (λ w. rest_high w k (known_ranks k)) c.requires.leaf.setting.of.wires in
    let spare_is = c.spare_wires.ensures ∙ ap (λ l. spare c.args.case.now.widths.wires l) of.intervals ∙ ap (λ w. spare w k.intervals) c.requires.leaf.setting.of.wires in
    subst (IsWiresRow c.args.basis.now k (pricing_value c.args.pricing.now) 0) (sym items)
    (rest_rows c.args.basis.now k (pricing_value c.args.pricing.now) c.deref.result.now c.fill_rest.new.row (c.spare_wires.result + 1) high (omega (arith, spare_is))
    (λ w less. ap (λ l. slice_index l w) c.deref.ensures.value ∙ c.note_worths.ensures.worths k of w less ∙ ap (λ n. bus_most c.args.basis.now k (pricing_value c.args.pricing.now) n (0 + w)) known)
    c.fill_rest.ensures.row)
