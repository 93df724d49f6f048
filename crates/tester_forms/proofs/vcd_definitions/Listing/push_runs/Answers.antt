use Rattle.std.proofs.Common.{◌≡◌, ◌+◌, length, get_or, true, false, refl, sym, ◌∙◌, arith, filter}
use Rattle.soc_model.specs.declared.Test.{Test}
use Rattle.soc_model.specs.Chips.{is_live}
use Rattle.tester_forms.specs.Variables.{run_variables}
use Rattle.tester_forms.proofs.Listed.{goes_on-begun, run_more, run_count, run_less, same_count, some_live}
use Rattle.tester_forms.proofs.vcd_definitions.Listing.push_runs.Goals.{then-live+in_ok-push_run, else-live}
use Rattle.tester_forms.proofs.vcd_definitions.Listing.push_runs.Goals as goal

abbrev no_test : Test
no_test = record { number = 0; scan = false; tam = false; patterns = 0; power = 0 }

pub loop-test-init : goal.loop-test-init
loop-test-init c = record { on = goes_on-begun c.args.self.now (run_variables c.args.module c.args.run (filter is_live c.args.tests.now)); next = refl }

pub loop-test-preserved : goal.loop-test-preserved
loop-test-preserved c =
    let tests = c.args.tests.now in
    let i = c.loop-test.test-index in
    let all = run_variables c.args.module c.args.run (filter is_live tests) in
    let total = c.args.run + length (filter is_live tests) in
    elim c.if-live.branch [
      | then-live+in_ok-push_run w ↦
          (let live : is_live (get_or tests i no_test) ≡ true = sym c.live.ensures ∙ w.if-live.true in
          record {
            on = run_more c.args.self.now c.loop-test.self w.push_run.new.self c.if-live.self c.args.module c.loop-test.place c.if-live.place i tests no_test all c.loop-test-test.true live c.loop-test.invariant.on w.in_ok-push_run.ensures w.self-is w.place-is;
            next = run_count c.loop-test.place c.if-live.place total i tests no_test c.loop-test-test.true live c.loop-test.invariant.next w.place-is;
          })
      | else-live w ↦
          (let dead : is_live (get_or tests i no_test) ≡ false = sym c.live.ensures ∙ w.if-live.false in
          record {
            on = run_less c.args.self.now c.loop-test.self c.if-live.self c.args.module c.loop-test.place c.if-live.place i tests no_test all c.loop-test-test.true dead c.loop-test.invariant.on w.self-is w.place-is;
            next = same_count c.loop-test.place c.if-live.place total i tests no_test c.loop-test-test.true dead c.loop-test.invariant.next w.place-is;
          })
    ]

pub overflow_add-place : goal.overflow_add-place
overflow_add-place c =
    let live : is_live (get_or c.args.tests.now c.loop-test.test-index no_test) ≡ true = sym c.live.ensures ∙ c.if-live.true in
    record { fits = omega (arith, some_live c.args.tests.now c.loop-test.test-index no_test c.loop-test-test.true live, c.loop-test.invariant.next, c.requires) }
