use Rattle.std.proofs.Common.{◌≡◌, ◌≤◌, length, sym, ap, subst, ◌∙◌, arith, slice_index}
use Rattle.std.proofs.lemmas.List.{get_or_default}
use Rattle.plan_model.specs.Proofs.{pricing_value}
use Rattle.leaf_bounds.specs.Bases.{limits_of}
use Rattle.leaf_bounds.specs.Cases.{known_ranks, spare}
use Rattle.leaf_bounds.proofs.PackSteps.{most_filled, WithRow}
use Rattle.leaf_bounds.proofs.pack_buses.most_filled.Goals as goal

pub loop-rank-preserved : goal.loop-rank-preserved
loop-rank-preserved c = record {
  room = c.rank_row.ensures.room;
  kept = c.rank_row.ensures.kept;
  row = λ k of. c.rank_row.ensures.row k of (c.loop-rank.invariant.row k of);
  small = λ x less. (omega (arith, c.rank_row.ensures.small x less));
  work = c.rank_row.ensures.work ∙ c.loop-rank.invariant.work;
  places = c.rank_row.ensures.places ∙ c.loop-rank.invariant.places;
}

pub returns-clause-most : goal.returns-clause-most
returns-clause-most c = λ k of.
    let known : c.loop-rank.rank ≡ known_ranks k = omega (arith, c.loop-rank-test.false, c.loop-rank.auto.rank-end, c.known_ranks-rank-end.ensures, ap length of.intervals) in
    let spare_is = c.spare_wires.ensures ∙ ap (λ l. spare c.args.case.now.widths.wires l) of.intervals ∙ ap (λ w. spare w k.intervals) c.requires.leaf.setting.of.wires in
    let fits : spare (limits_of c.args.basis.now).wires k.intervals ≤ (limits_of c.args.basis.now).wires = omega arith in
    let read =
    sym (get_or_default c.loop-rank.room.wires.items c.spare_wires.result 0 c.index.result.now (omega (arith, spare_is, fits, c.loop-rank.invariant.room.wires)) ∙ sym c.index.ensures) in
    let shared = c.loop-rank.invariant.row k of (spare (limits_of c.args.basis.now).wires k.intervals) (omega arith) in
    let read' = read ∙ ap (slice_index c.loop-rank.room.wires.items) spare_is in
    most_filled c.args.basis.now k (pricing_value c.args.pricing.now) c.index.result.now (c.requires.some k of)
    (subst (λ n. WithRow c.args.basis.now k (pricing_value c.args.pricing.now) (known_ranks k) (spare (limits_of c.args.basis.now).wires k.intervals) n) (sym read')
    (subst (λ r. WithRow c.args.basis.now k (pricing_value c.args.pricing.now) r (spare (limits_of c.args.basis.now).wires k.intervals) (slice_index c.loop-rank.room.wires.items (spare (limits_of c.args.basis.now).wires k.intervals))) known shared))

pub returns-clause-small : goal.returns-clause-small
returns-clause-small c =
    let r = c.requires.leaf.setting.case_is.roomy in
    let spare_is = c.spare_wires.ensures ∙ ap (λ w. spare w c.args.case.now.widths.intervals.items) c.requires.leaf.setting.of.wires in
    let fits : spare (limits_of c.args.basis.now).wires c.args.case.now.widths.intervals.items ≤ (limits_of c.args.basis.now).wires = omega arith in
    let read =
    sym (get_or_default c.loop-rank.room.wires.items c.spare_wires.result 0 c.index.result.now (omega (arith, spare_is, fits, c.loop-rank.invariant.room.wires)) ∙ sym c.index.ensures) in
    let small = c.loop-rank.invariant.small c.spare_wires.result (omega (arith, spare_is)) in
    omega (arith, read, small, r.ranks, r.known, c.loop-rank-test.false, c.loop-rank.auto.rank-end, c.known_ranks-rank-end.ensures)
