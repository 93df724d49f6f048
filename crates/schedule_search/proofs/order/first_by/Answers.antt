use Rattle.std.proofs.Common.{◌≡◌, ◌∙◌, ◌<◌, ◌++◌, ◌∷◌, [], ℕ, length, get_or, sym, subst, ap, arith, length-append}
use Rattle.resource_table.specs.Jobs.{job_value}
use Rattle.schedule_search.proofs.Explorings.{none_left, some_left}
use Rattle.schedule_search.proofs.Stepping.{at_own}
use Rattle.schedule_search.proofs.Taking.{longest_more, all_taken}
use Rattle.plan_model.specs.Rules.{Each}
use Rattle.schedule_search.specs.Orders.{IsLongest}
use Rattle.schedule_search.proofs.order.first_by.Goals as goal

pub loop-prefix-preserved : goal.loop-prefix-preserved
loop-prefix-preserved c =
    let job = job_value c.args.job.now in
    let p = c.loop-prefix.prefix in
    let some : 0 < length p.free.items = subst (λ (n : ℕ). 0 < n) p.free.ok.0 (some_left p.free.len c.is_empty.result c.is_empty.ensures c.loop-prefix-test.true) in
    record {
      at = at_own job (p.tests.items ++ get_or p.free.items 0 0 ∷ []) c.take_first.new.self c.take_first.ensures;
      longest = longest_more job p c.take_first.new.self c.loop-prefix.invariant.at c.loop-prefix.invariant.longest some c.take_first.ensures.tests_are;
    }

pub returns : goal.returns
returns c =
    let p = c.loop-prefix.prefix in
    let none : length p.free.items ≡ 0 = sym p.free.ok.0 ∙ none_left p.free.len c.is_empty.result c.is_empty.ensures c.loop-prefix-test.false in
    all_taken (job_value c.args.job.now) p c.requires.sound c.loop-prefix.invariant.at c.loop-prefix.invariant.longest none

pub loop-prefix-smaller : goal.loop-prefix-smaller
loop-prefix-smaller c =
    let p = c.loop-prefix.prefix in
    let before = c.loop-prefix.invariant.at in
    let after = c.take_first.ensures in
    omega (arith, ap length after.rest_are, after.left, ap length before.rest_are, before.left, length-append p.tests.items (get_or p.free.items 0 0 ∷ []))

pub loop-prefix-init : goal.loop-prefix-init
loop-prefix-init c = record {
  at = c.begin.ensures.at;
  longest = subst (Each (IsLongest (job_value c.args.job.now))) (sym c.begin.ensures.tests) (λ n x at. absurd cc);
}
