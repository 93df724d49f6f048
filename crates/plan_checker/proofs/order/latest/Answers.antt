use Rattle.std.proofs.Common.{get_or, sym, ◌∙◌, arith, None}
use Rattle.std.proofs.lemmas.Option.{slice_get-get_or, get_or_from_slice_get}
use Rattle.plan_model.proofs.Greatest.{greatest_more}
use Rattle.live_tests.specs.declared.placed.PlacedTest.{PlacedTest}
use Rattle.plan_checker.proofs.order.latest.Goals as goal

none : PlacedTest
none = record { id = record { «module» = 0; test = 0 }; place = 0; bus = None; start = 0; end = 0; power = 0 }

pub loop-test-preserved : goal.loop-test-preserved
unfolding none
loop-test-preserved c =
    let at = slice_get-get_or c.args.placed.now c.loop-test.test-index none (omega arith) in
    c.max-end.ensures ∙ rw c.loop-test.invariant (sym (greatest_more (λ (j : PlacedTest). j.end) c.args.placed.now c.loop-test.test-index (get_or c.args.placed.now c.loop-test.test-index none) (omega arith) (get_or_from_slice_get c.args.placed.now c.loop-test.test-index _ _ at)))
