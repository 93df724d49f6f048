use Rattle.std.proofs.Common.{◌≡◌, ◌∙◌, Some, sym, ap, subst, slice_get}
use Rattle.std.proofs.lemmas.Option.{same_Some}
use Rattle.soc_model.specs.Chips.{SocValue, module_value, soc_value}
use Rattle.bound_rules.proofs.SoundWork.{live_work-le}
use Rattle.live_tests.specs.Problems.{ProblemValue}
use Rattle.case_tables.proofs.filling.push_test.Goals as goal

pub push_times-requires-clause-work : goal.push_times-requires-clause-work
push_times-requires-clause-work c = λ m at.
    let soc = soc_value c.problem.inside.soc.now in
    let own = module_value c.args.«module».now in
    let chip : c.args.problem.now.soc ≡ soc = sym (ap (λ (v : ProblemValue). v.soc) c.problem.view_is) in
    let at' = subst (λ (chip : SocValue). slice_get chip.modules c.args.place ≡ Some m) (c.requires.times.chip_is ∙ chip) at in
    let there = subst (λ (chip : SocValue). slice_get chip.modules c.args.place ≡ Some own) chip c.requires.there in
    let same : own ≡ m = same_Some own m (sym there ∙ at') in
    rw (← same) (live_work-le soc c.problem.invariant.sound c.args.place c.requires.test_there.0 own c.args.test.now there c.requires.test_there.1 c.requires.live)
