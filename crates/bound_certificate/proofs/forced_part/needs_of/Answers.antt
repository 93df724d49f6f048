use Rattle.std.proofs.Common.{◌≡◌, ℕ, ◌+◌, ◌++◌, ◌∷◌, [], ◌∙◌, length, map, sym, ap, refl, arith}
use Rattle.std.specs.List.{range_with_len}
use Rattle.std.proofs.lemmas.List.{length-map}
use Rattle.soc_model.specs.declared.Module.{Module}
use Rattle.soc_model.specs.Chips.{module_value}
use Rattle.bound_certificate.specs.Needs.{need_or_zero}
use Rattle.bound_certificate.proofs.Orders.{next_map}
use Rattle.bound_certificate.proofs.forced_part.needs_of.Goals as goal

pub loop-place-preserved : goal.loop-place-preserved
loop-place-preserved c =
    c.in_ok-push.ensures.ok
    ∙ ap (λ xs. xs ++ c.need_or_zero.result ∷ []) c.loop-place.invariant
    ∙ ap (λ v. map (need_or_zero c.args.problem.now.soc c.args.problem.now.limits.wires c.args.claimed) (range_with_len 0 c.loop-place.place) ++ v ∷ []) c.need_or_zero.ensures
    ∙ sym (next_map (need_or_zero c.args.problem.now.soc c.args.problem.now.limits.wires c.args.claimed) c.loop-place.place (c.loop-place.place + 1) refl)

pub returns : goal.returns
returns c =
    let long : length c.args.problem.now.soc.modules ≡ length c.problem.inside.soc.now.modules.entries = rw (← c.problem.view_is) (length-map c.problem.inside.soc.now.modules.entries (λ (e : ℕ × Module). module_value e.1)) in
    let all : c.loop-place.place ≡ length c.args.problem.now.soc.modules = omega (arith, long, c.len-place-end.ensures.len, c.loop-place-test.false, c.loop-place.auto.place-end) in
    c.loop-place.invariant ∙ ap (λ n. map (need_or_zero c.args.problem.now.soc c.args.problem.now.limits.wires c.args.claimed) (range_with_len 0 n)) all
