use Rattle.std.proofs.Common.{◌≡◌, ◌+◌, ◌*◌, ◌^◌, length, sym, ap, subst, ◌∙◌, arith, slice_index}
use Rattle.std.proofs.lemmas.List.{with_items_is}
use Rattle.plan_model.specs.Proofs.{pricing_value}
use Rattle.leaf_bounds.specs.Bases.{limits_of}
use Rattle.leaf_bounds.specs.Cases.{Interval, interval, interval_of, spare}
use Rattle.leaf_bounds.specs.PackBuses.{IsWiresRow, bus_most, span_at}
use Rattle.leaf_bounds.proofs.PackSteps.{not_crossed, rank_rows, rank_small}
use Rattle.leaf_bounds.proofs.pack_buses.rank_row.Goals as goal

pub note_worths-requires-clause-width : goal.note_worths-requires-clause-width
note_worths-requires-clause-width c =
    let k = c.requires.leaf.setting.known in
    let low = ap (λ (i : Interval). i.low) c.interval_at-interval.ensures in
    let high = ap (λ (i : Interval). i.high) c.interval_at-interval.ensures in
    let crossed = not_crossed (limits_of c.args.basis.now).wires c.args.rank k.1 (c.requires.some k.0 k.1) c.requires.rank in
    omega (arith, c.saturating_sub-span.ensures, low, high, crossed, c.requires.leaf.setting.of.within c.args.rank (interval 0 0) c.requires.rank)

pub returns-clause-row : goal.returns-clause-row
returns-clause-row c = λ k of was.
    let long = ap length c.deref_mut.ensures.value in
    let items = with_items_is c.note_worths.new.room.wires c.add_rank.new.row (omega (arith, c.add_rank.ensures.long, long, c.note_worths.new.room.wires.ok.0)) in
    let at = c.interval_at-interval.ensures ∙ ap (λ l. interval_of l c.args.rank) of.intervals in
    let low = ap (λ (i : Interval). i.low) at in
    let high = ap (λ (i : Interval). i.high) at in
    let span : c.saturating_sub-span.result ≡ span_at k c.args.rank = omega (arith, c.saturating_sub-span.ensures, low, high) in
    let spare_is = c.spare_wires.ensures ∙ ap (λ l. spare c.args.case.now.widths.wires l) of.intervals ∙ ap (λ w. spare w k.intervals) c.requires.leaf.setting.of.wires in
    let before = c.deref_mut.ensures.value ∙ ap (λ v. v.items) c.note_worths.ensures.wires in
    subst (IsWiresRow c.args.basis.now k (pricing_value c.args.pricing.now) (c.args.rank + 1)) (sym items)
    (rank_rows c.args.basis.now k (pricing_value c.args.pricing.now) c.args.rank c.deref.result.now c.deref_mut.result.now c.add_rank.new.row (c.spare_wires.result + 1) span (omega (arith, spare_is))
    (λ w less. ap (λ l. slice_index l w) c.deref.ensures.value ∙ c.note_worths.ensures.worths k of w less ∙ ap (λ n. bus_most c.args.basis.now k (pricing_value c.args.pricing.now) c.args.rank (n + w)) low)
    c.add_rank.ensures.row
    (subst (IsWiresRow c.args.basis.now k (pricing_value c.args.pricing.now) c.args.rank) (sym before) was))

pub returns-clause-small : goal.returns-clause-small
returns-clause-small c = λ x less.
    let long = ap length c.deref_mut.ensures.value in
    let items = with_items_is c.note_worths.new.room.wires c.add_rank.new.row (omega (arith, c.add_rank.ensures.long, long, c.note_worths.new.room.wires.ok.0)) in
    let at = ap (λ l. slice_index l x) items in
    let spare_is = c.spare_wires.ensures ∙ ap (λ w. spare w c.args.case.now.widths.intervals.items) c.requires.leaf.setting.of.wires in
    let before = c.deref_mut.ensures.value ∙ ap (λ v. v.items) c.note_worths.ensures.wires in
    let most = rank_small (slice_index c.deref.result.now) (slice_index c.deref_mut.result.now) c.saturating_sub-span.result x (slice_index c.add_rank.new.row x) ((300 + c.args.rank) * 10 ^ 18) (c.add_rank.ensures.row x (omega (arith, spare_is, less)))
    (λ w l. omega (arith, ap (λ xs. slice_index xs w) c.deref.ensures.value, c.note_worths.ensures.small w l))
    (λ y l. let e = ap (λ xs. slice_index xs y) before in omega (arith, e, c.requires.small y (omega (arith, l, less)))) in
    omega (arith, at, most)

pub returns-clause-room : goal.returns-clause-room
returns-clause-room c =
    let long = ap length c.deref_mut.ensures.value in
    let items = with_items_is c.note_worths.new.room.wires c.add_rank.new.row (omega (arith, c.add_rank.ensures.long, long, c.note_worths.new.room.wires.ok.0)) in
    record { bus = c.note_worths.ensures.room.bus; wires = ap length items ∙ c.add_rank.ensures.long ∙ long ∙ c.note_worths.ensures.room.wires; worth = c.note_worths.ensures.room.worth; kept = c.note_worths.ensures.room.kept }
