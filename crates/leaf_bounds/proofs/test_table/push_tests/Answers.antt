use Rattle.std.proofs.Common.{rules, ◌≡◌, ◌<◌, ◌∙◌, Some, length, sym, ap, arith}
use Rattle.std.proofs.lemmas.Option.{slice_get-get_or}
use Rattle.soc_model.specs.Chips.{module_value}
use Rattle.leaf_bounds.proofs.TestTables.{at_none, at_next, at_passed, at_all}
use Rattle.leaf_bounds.proofs.test_table.push_tests.Goals.{then-live+in_ok-push, else-live}
use Rattle.leaf_bounds.proofs.test_table.push_tests.Goals as goal

pub loop-test-init : goal.loop-test-init
loop-test-init c = λ soc ls there are. at_none are

pub loop-test-preserved : goal.loop-test-preserved
loop-test-preserved c = λ soc ls there are.
    let long : c.len-test-end.result ≡ length c.args.«module».now.tests.items = search rules in
    let within : c.loop-test.test < length c.args.«module».now.tests.items = omega (arith, long, c.loop-test-test.true) in
    let at = slice_get-get_or c.args.«module».now.tests.items c.loop-test.test c.index.result.now within ∙ ap Some (sym c.index.ensures) in
    let before = c.loop-test.invariant soc ls there are in
    elim c.if-live.branch [
      | then-live+in_ok-push w ↦
          rw w.tests-is (at_next soc c.args.limits.now ls c.args.place (module_value c.args.«module».now) c.loop-test.test w.test_place.result
          at (sym c.live.ensures ∙ w.if-live.true) w.in_ok-push.ensures.ok
          (record { «module» = w.test_place.ensures.«module»; core = there; test = rw w.test_place.ensures.test at; profile = w.test_place.ensures.profile c.index.result.now at }) before)
      | else-live w ↦
          rw w.tests-is (at_passed ls c.args.place (module_value c.args.«module».now) c.loop-test.test at (sym c.live.ensures ∙ w.if-live.false) before)
    ]

pub returns : goal.returns
returns c = λ soc ls there are.
    let long : c.len-test-end.result ≡ length c.args.«module».now.tests.items = search rules in
    at_all ls c.args.place (module_value c.args.«module».now) c.loop-test.test (omega (arith, long, c.loop-test-test.false)) (c.loop-test.invariant soc ls there are)
