use Rattle.std.proofs.Common.{◌≡◌, true, Some, refl, sym, ◌∙◌, subst, arith, inl, inr, true≢false, slice_get}
use Rattle.std.proofs.lemmas.Bool.{cases_eq}
use Rattle.soc_model.specs.Chips.{ModuleValue, soc_value, module_value}
use Rattle.plan_model.specs.Rules.{IsListed, has_tam}
use Rattle.plan_checker.proofs.Finding.{some_same}
use Rattle.plan_model.proofs.FirstBreaches.{each_all, first_here}
use Rattle.plan_checker.proofs.Marking.{isnt_placed, all_placed}
use Rattle.plan_checker.proofs.places.unplaced.Goals as goal

pub returns-then-has_tam_test : goal.returns-then-has_tam_test
returns-then-has_tam_test c = λ plan marked all.
    let wired : has_tam (module_value c.module_at-module.result.now) ≡ true = sym c.if-has_tam_test.ensures in (
      c.loop-place.place,
      module_value c.module_at-module.result.now,
      first_here (IsListed plan) (soc_value c.args.soc.now).modules c.loop-place.place (module_value c.module_at-module.result.now) (all_placed (soc_value c.args.soc.now) plan c.args.marks.now c.args.count c.loop-place.place marked all c.loop-place.invariant) c.module_at-module.ensures
          (λ has. isnt_placed (soc_value c.args.soc.now) plan c.args.marks.now c.args.count c.loop-place.place (module_value c.module_at-module.result.now) marked all c.module_at-module.ensures (omega arith) (has wired)),
      refl,
    )

pub returns : goal.returns
returns c = λ plan marked all. each_all (IsListed plan) (soc_value c.args.soc.now).modules c.loop-place.place (omega arith) (all_placed (soc_value c.args.soc.now) plan c.args.marks.now c.args.count c.loop-place.place marked all c.loop-place.invariant)

pub loop-place-preserved : goal.loop-place-preserved
loop-place-preserved c = λ p m less at wired. elim (cases_eq p c.loop-place.place) [
  | inl same ↦
      let here : slice_get (soc_value c.args.soc.now).modules c.loop-place.place ≡ Some m = rw same at at in
      let one : module_value c.module_at-module.result.now ≡ m = some_same (sym c.module_at-module.ensures ∙ here) in
      let wired' : has_tam (module_value c.module_at-module.result.now) ≡ true = subst (λ (m : ModuleValue). has_tam m ≡ true) (sym one) wired in
      absurd (true≢false (sym wired' ∙ sym c.if-has_tam_test.ensures))
  | inr other ↦ c.loop-place.invariant p m (omega (arith, other)) at wired
]
