use Rattle.std.proofs.Common.{◌≡◌, length, arith, ◌+◌, ◌++◌, ◌∷◌, [], ◌∙◌, nat_eq, map, sym, ap, refl, append_assoc, slice_index, filter}
use Rattle.std.specs.List.{range_with_len}
use Rattle.std.proofs.lemmas.Bool.{ne_eqb, eq-eqb}
use Rattle.soc_model.specs.Chips.{module_value, soc_value}
use Rattle.bound_certificate.specs.Best.{number_at}
use Rattle.bound_certificate.proofs.Considered.{number_is}
use Rattle.bound_certificate.proofs.Orders.{next_taken, next_left}
use Rattle.bound_certificate.proofs.forced_part.push_with_need.Goals as goal

pub loop-place-preserved-then-needs-place : goal.loop-place-preserved-then-needs-place
loop-place-preserved-then-needs-place c =
    c.loop-place.invariant ∙ ap (λ r. c.args.order.now.items ++ r)
    (sym (next_left (number_at (soc_value c.args.soc.now)) (λ place. nat_eq (slice_index c.args.needs.now place) c.args.needed) c.loop-place.place (c.loop-place.place + 1) refl
    (ne_eqb (slice_index c.args.needs.now c.loop-place.place) c.args.needed c.if-needs-place.true)))

pub loop-place-preserved : goal.loop-place-preserved
loop-place-preserved c =
    c.in_ok-push.ensures.ok
    ∙ ap (λ xs. xs ++ c.module_at.result.now.number ∷ []) c.loop-place.invariant
    ∙ append_assoc c.args.order.now.items (map (number_at (soc_value c.args.soc.now)) (filter (λ place. nat_eq (slice_index c.args.needs.now place) c.args.needed) (range_with_len 0 c.loop-place.place))) (c.module_at.result.now.number ∷ [])
    ∙ ap (λ r. c.args.order.now.items ++ r)
    (ap (λ v. map (number_at (soc_value c.args.soc.now)) (filter (λ place. nat_eq (slice_index c.args.needs.now place) c.args.needed) (range_with_len 0 c.loop-place.place)) ++ v ∷ []) (sym (number_is (soc_value c.args.soc.now) c.loop-place.place (module_value c.module_at.result.now) c.module_at.ensures))
    ∙ sym (next_taken (number_at (soc_value c.args.soc.now)) (λ place. nat_eq (slice_index c.args.needs.now place) c.args.needed) c.loop-place.place (c.loop-place.place + 1) refl
    (eq-eqb (slice_index c.args.needs.now c.loop-place.place) c.args.needed c.if-needs-place.false)))

pub returns : goal.returns
returns c =
    let all : c.loop-place.place ≡ length (soc_value c.args.soc.now).modules = omega (arith, c.requires.long, c.loop-place-test.false, c.loop-place.auto.place-end) in
    c.loop-place.invariant ∙ ap (λ n. c.args.order.now.items ++ map (number_at (soc_value c.args.soc.now)) (filter (λ place. nat_eq (slice_index c.args.needs.now place) c.args.needed) (range_with_len 0 n))) all
