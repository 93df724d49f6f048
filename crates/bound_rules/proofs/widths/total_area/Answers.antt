use Rattle.std.proofs.Common.{◌≡◌, ℕ, ◌+◌, ◌∙◌, ap, sym, length, arith, refl}
use Rattle.std.proofs.lemmas.List.{length-map}
use Rattle.soc_model.specs.declared.Module.{Module}
use Rattle.soc_model.specs.Chips.{soc_value, module_value}
use Rattle.plan_model.specs.Bounds.{sum_below, module_area}
use Rattle.bound_rules.proofs.Areas.{areas-fit, next-area}
use Rattle.bound_rules.proofs.widths.total_area.Goals as goal

pub loop-place-init : goal.loop-place-init
unfolding sum_below
loop-place-init c = λ wires some. refl

pub overflow_add-sum : goal.overflow_add-sum
overflow_add-sum c =
    let long : length (soc_value c.args.soc.now).modules ≡ length c.args.soc.now.modules.entries = length-map c.args.soc.now.modules.entries (λ (e : ℕ × Module). module_value e.1) in
    omega (
      arith,
      c.loop-place.invariant 1 (omega arith),
      c.module_area-sum.ensures 1 (omega arith),
      next-area (module_area (soc_value c.args.soc.now) 1) c.loop-place.place (c.loop-place.place + 1) refl,
      areas-fit (soc_value c.args.soc.now) 1 (c.loop-place.place + 1) c.requires (omega arith) (omega (arith, long, c.len-place-end.ensures.len, c.loop-place-test.true)),
    )

pub loop-place-preserved : goal.loop-place-preserved
loop-place-preserved c = λ wires some.
    sym (next-area (module_area (soc_value c.args.soc.now) wires) c.loop-place.place (c.loop-place.place + 1) refl ∙ omega (arith, c.loop-place.invariant wires some, c.module_area-sum.ensures wires some))

pub returns-clause-sum : goal.returns-clause-sum
returns-clause-sum c = λ wires some.
    let long : length (soc_value c.args.soc.now).modules ≡ length c.args.soc.now.modules.entries = length-map c.args.soc.now.modules.entries (λ (e : ℕ × Module). module_value e.1) in
    let all : c.loop-place.place ≡ length (soc_value c.args.soc.now).modules = omega (arith, long, c.len-place-end.ensures.len, c.loop-place-test.false) in
    c.loop-place.invariant wires some ∙ ap (sum_below (module_area (soc_value c.args.soc.now) wires)) all

pub returns-clause-small : goal.returns-clause-small
returns-clause-small c =
    rw (returns-clause-sum c 1 (omega arith)) (areas-fit (soc_value c.args.soc.now) 1 (length (soc_value c.args.soc.now).modules) c.requires (omega arith) (omega arith))
