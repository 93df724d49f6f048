use Rattle.std.proofs.Common.{◌∙◌, false, ap, map, sym, Vec}
use Rattle.std.specs.Global.{Global}
use Rattle.std.proofs.lemmas.Option.{slice_get-get_or}
use Rattle.soc_model.specs.declared.Test.{Test}
use Rattle.soc_model.specs.Chips.{module_value}
use Rattle.resource_table.specs.declared.JobTest.{JobTest}
use Rattle.resource_table.specs.Jobs.{test_value}
use Rattle.planner.specs.Jobs.{test_in}
use Rattle.planner.specs.Sources.{chip_of, limits_of, plan_of}
use Rattle.planner.proofs.LiveJobs.{test_added, test_left}
use Rattle.planner.proofs.job.push_live.Goals.{then-live+in_ok-entry+in_ok-push, else-live}
use Rattle.planner.proofs.job.push_live.Goals as goal

nothing : Test
nothing = record { number = 0; scan = false; tam = false; patterns = 0; power = 0 }

pub test_of-requires-clause-test_there : goal.test_of-requires-clause-test_there
unfolding nothing
test_of-requires-clause-test_there c = (c.loop-test.test-index, rw (← c.deref-test-items.ensures.value) (slice_get-get_or c.deref-test-items.result.now c.loop-test.test-index nothing c.loop-test-test.true))

pub loop-test-preserved : goal.loop-test-preserved
unfolding nothing
loop-test-preserved c =
    let source = c.args.parts.now.source.now in
    let made = test_in (chip_of source) (limits_of source) (plan_of source) c.args.place (module_value c.args.«module».now) in
    elim c.if-live.branch [
      | then-live+in_ok-entry+in_ok-push w ↦
          test_added made (map test_value c.args.tests.now.items) c.deref-test-items.result.now c.loop-test.test-index nothing c.loop-test-test.true c.loop-test.tests.items c.if-live.tests.items w.in_ok-entry.entry
          (sym c.live.ensures ∙ w.if-live.true) (rw c.shared_of-shared.ensures.place at w.in_ok-entry.ensures) (ap (λ (v : Vec JobTest Global). v.items) w.tests-is ∙ w.in_ok-push.ensures.ok) c.loop-test.invariant
      | else-live w ↦
          test_left made (map test_value c.args.tests.now.items) c.deref-test-items.result.now c.loop-test.test-index nothing c.loop-test-test.true c.loop-test.tests.items c.if-live.tests.items
          (sym c.live.ensures ∙ w.if-live.false) (ap (λ (v : Vec JobTest Global). v.items) w.tests-is) c.loop-test.invariant
    ]
