use Rattle.std.proofs.Common.{◌∙◌, ◌<◌, ◌≤◌, false, ◌++◌, List, length, get_or, sym, ap, subst, arith, All}
use Rattle.std.proofs.lemmas.List.{append-nil, drop_all}
use Rattle.std.proofs.lemmas.List.Elements.{All-push}
use Rattle.soc_model.specs.declared.Test.{Test}
use Rattle.plan_model.specs.Views.{limits_value}
use Rattle.split_plan.specs.declared.cuts.Cut.{Cut}
use Rattle.split_plan.specs.Cuts.{cut_of, cuts_from}
use Rattle.split_plan.specs.Steps.{HasRoom}
use Rattle.split_plan.proofs.Making.{cuts_more}
use Rattle.split_plan.proofs.cuts.cuts_in.Goals as goal

pub loop-test-preserved : goal.loop-test-preserved
loop-test-preserved c =
    let limits = limits_value c.args.limits.now in
    let home = c.args.module.now.number in
    let at = c.loop-test.test-index in
    let cut = c.cut_of-cut.result in
    let old = c.loop-test.cuts.items in
    let d : Test = record { number = 0; scan = false; tam = false; patterns = 0; power = 0 } in
    let tests = c.deref-test-items.ensures.value in
    let less = subst (λ (ts : List Test). at < length ts) tests c.loop-test-test.true in
    let is = c.cut_of-cut.ensures.cut ∙ ap (λ (ts : List Test). cut_of limits c.args.most home c.loop-test.number (get_or ts at d)) tests in
    let added = c.in_ok-push.ensures.ok in (
      cuts_more limits c.args.most home c.loop-test.number c.args.module.now.tests.items at d cut old c.push.new.to.items _ less is c.loop-test.invariant.0 added,
      omega arith,
      subst (λ (cuts : List Cut). All HasRoom cuts) (sym added) (All-push HasRoom old cut c.loop-test.invariant.2 c.cut_of-cut.ensures.room),
    )

pub returns-clause-cuts : goal.returns-clause-cuts
returns-clause-cuts c =
    let tests = c.args.module.now.tests.items in
    let long = subst (λ (ts : List Test). length ts ≤ c.loop-test.test-index) c.deref-test-items.ensures.value c.loop-test-test.false in
    let none = ap (λ (ts : List Test). c.loop-test.cuts.items ++ cuts_from (limits_value c.args.limits.now) c.args.most c.args.module.now.number c.loop-test.number ts) (drop_all c.loop-test.test-index tests long) in
    sym (append-nil c.loop-test.cuts.items) ∙ sym none ∙ c.loop-test.invariant.0
