use Rattle.std.proofs.Common.{◌≤◌, ◌∙◌, false, ap, sym, ◌^◌, arith, length}
use Rattle.std.specs.List.{sum_by, filter}
use Rattle.soc_model.specs.declared.Test.{Test}
use Rattle.soc_model.specs.Chips.{module_value}
use Rattle.soc_model.specs.Modes.{is_of_mode}
use Rattle.width_table.proofs.Work.{patterns_of, left_yes, left_no, left_none, tests_few, patterns_few}
use Rattle.width_table.proofs.choosing.totals.Goals as goal
use Rattle.width_table.proofs.choosing.totals.Goals.{then-is_of_mode, else-is_of_mode}

no_test : Test
no_test = record { number = 0; scan = false; tam = false; patterns = 0; power = 0 }

-- all patterns together are within the work
few : (c : goal.Then-is_of_mode) → sum_by patterns_of (filter (is_of_mode c.args.scan) c.deref-test-items.result.now) ≤ 10 ^ 18
few c = omega (arith, patterns_few (module_value c.args.«module».now) c.args.scan c.args.«module».now.tests.items, ap (λ v. sum_by patterns_of (filter (is_of_mode c.args.scan) v)) c.deref-test-items.ensures.value, c.requires)

pub overflow_add-tests : goal.overflow_add-tests
unfolding no_test
overflow_add-tests c =
    let r = left_yes (is_of_mode c.args.scan) c.deref-test-items.result.now c.loop-test.test-index no_test c.loop-test-test.true (sym c.is_of_mode.ensures ∙ c.if-is_of_mode.true) in
    omega (arith, r.0, c.loop-test.invariant.tests, tests_few c.args.scan c.deref-test-items.result.now, few c)

pub overflow_add-patterns : goal.overflow_add-patterns
unfolding no_test
overflow_add-patterns c =
    let r = left_yes (is_of_mode c.args.scan) c.deref-test-items.result.now c.loop-test.test-index no_test c.loop-test-test.true (sym c.is_of_mode.ensures ∙ c.if-is_of_mode.true) in
    omega (arith, r.1, c.loop-test.invariant.patterns, few c)

pub loop-test-preserved : goal.loop-test-preserved
unfolding no_test
loop-test-preserved c = elim c.if-is_of_mode.branch [
  | then-is_of_mode w ↦
      let r = left_yes (is_of_mode c.args.scan) c.deref-test-items.result.now c.loop-test.test-index no_test c.loop-test-test.true (sym c.is_of_mode.ensures ∙ w.if-is_of_mode.true) in
      record { tests = omega (arith, r.0, c.loop-test.invariant.tests, w.tests-is); patterns = omega (arith, r.1, c.loop-test.invariant.patterns, w.patterns-is) }
  | else-is_of_mode w ↦
      let r = left_no (is_of_mode c.args.scan) c.deref-test-items.result.now c.loop-test.test-index no_test c.loop-test-test.true (sym c.is_of_mode.ensures ∙ w.if-is_of_mode.false) in
      record { tests = omega (arith, r.0, c.loop-test.invariant.tests, w.tests-is); patterns = omega (arith, r.1, c.loop-test.invariant.patterns, w.patterns-is) }
]

pub returns-clause-tests : goal.returns-clause-tests
returns-clause-tests c =
    let r = left_none (is_of_mode c.args.scan) c.deref-test-items.result.now c.loop-test.test-index c.loop-test-test.false in
    omega (arith, r.0, c.loop-test.invariant.tests, ap (λ v. length (filter (is_of_mode c.args.scan) v)) c.deref-test-items.ensures.value)

pub returns-clause-patterns : goal.returns-clause-patterns
returns-clause-patterns c =
    let r = left_none (is_of_mode c.args.scan) c.deref-test-items.result.now c.loop-test.test-index c.loop-test-test.false in
    omega (arith, r.1, c.loop-test.invariant.patterns, ap (λ v. sum_by patterns_of (filter (is_of_mode c.args.scan) v)) c.deref-test-items.ensures.value)
