use Rattle.std.proofs.Common.{◌≡◌, ◌∙◌, ◌+◌, ◌-◌, ◌++◌, ℕ, List, append_assoc, ap, sym, arith}
use Rattle.std.proofs.lemmas.Result.{on_ok_weaker}
use Rattle.live_tests.specs.declared.placed.PlacedTest.{PlacedTest}
use Rattle.report.specs.BusLines.{bus_line, busy_cycles, idle_cycles, place_text, tests_over, use_text}
use Rattle.report.specs.PlacedTests.{AreTests, cycles_over}
use Rattle.report.proofs.Busy.{busy_is, idle_is}
use Rattle.report.proofs.buses.push_bus.Goals as goal

pub cycles_over-busy-requires : goal.cycles_over-busy-requires
cycles_over-busy-requires c = omega (arith, busy_is c.args.cycles c.args.tests.now c.args.place c.requires, idle_is c.args.cycles c.args.tests.now c.args.place, c.ranges.cycles)

pub overflow_sub-idle : goal.overflow_sub-idle
overflow_sub-idle c = omega (arith, c.cycles_over-busy.ensures, busy_is c.args.cycles c.args.tests.now c.args.place c.requires, idle_is c.args.cycles c.args.tests.now c.args.place)

-- the line of these numbers
line_is : (cycles : ℕ) (tests : List PlacedTest) (b width n busy idle : ℕ) (t2 t1 t0 : List ℕ) → AreTests cycles tests → n ≡ tests_over tests b → busy ≡ cycles_over tests b → idle + busy ≡ cycles →
    t1 ≡ t0 ++ place_text b width → t2 ≡ t1 ++ use_text n busy idle → t2 ≡ t0 ++ bus_line cycles tests b width
unfolding bus_line
line_is cycles tests b width n busy idle t2 t1 t0 are n_is busy_over all first last =
    let busy_are : busy ≡ busy_cycles tests b cycles = busy_over ∙ sym (busy_is cycles tests b are) in
    let idle_are : idle ≡ idle_cycles tests b cycles = omega (arith, all, busy_are, idle_is cycles tests b) in
    last ∙ ap (λ (l : List ℕ). l ++ use_text n busy idle) first ∙ append_assoc t0 (place_text b width) (use_text n busy idle)
    ∙ ap (λ k. t0 ++ (place_text b width ++ use_text k busy idle)) n_is
    ∙ ap (λ k. t0 ++ (place_text b width ++ use_text (tests_over tests b) k idle)) busy_are
    ∙ ap (λ k. t0 ++ (place_text b width ++ use_text (tests_over tests b) (busy_cycles tests b cycles) k)) idle_are

pub returns : goal.returns
returns c =
    on_ok_weaker c.push_use.result (λ pushed. line_is c.args.cycles c.args.tests.now c.args.place c.args.width c.tests_over.result c.cycles_over-busy.result (c.args.cycles - c.cycles_over-busy.result) c.push_use.new.text.items c.push_place.new.text.items c.args.text.now.items c.requires c.tests_over.ensures c.cycles_over-busy.ensures
    (omega (arith, c.cycles_over-busy.ensures, busy_is c.args.cycles c.args.tests.now c.args.place c.requires, idle_is c.args.cycles c.args.tests.now c.args.place)) c.in_ok-push_place.ensures pushed) c.push_use.ensures
