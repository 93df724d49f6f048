use Rattle.std.proofs.Common.{◌≡◌, ◌∙◌, ◌<◌, ℕ, List, length, map, sym, ap, subst, arith, All}
use Rattle.std.proofs.lemmas.List.{length-map}
use Rattle.soc_model.specs.declared.Module.{Module}
use Rattle.soc_model.specs.Chips.{soc_value, module_value}
use Rattle.resource_table.specs.Befores.{listed, tests_before}
use Rattle.resource_table.specs.Jobs.{test_value}
use Rattle.arch_schedule.proofs.Listing.{timed_more, fewer_left, none_left}
use Rattle.arch_schedule.proofs.problem.TimedTests.new.Goals as goal

pub loop-place-preserved : goal.loop-place-preserved
loop-place-preserved c =
    let fewer = fewer_left (soc_value c.args.soc.now).modules c.loop-place.place (module_value c.module_at-module.result.now) c.module_at-module.ensures in
    record {
      timed = c.in_ok-push_tests.ensures.timed (length c.push_module.new.modules.items) c.in_ok-number.ensures.number
          (timed_more c.args.wires (length c.loop-place.modules.items) (length c.push_module.new.modules.items) c.loop-place.tests.items c.in_ok-number.ensures.more c.loop-place.invariant.timed);
      count = omega (arith, fewer, c.in_ok-push_tests.ensures.count, c.loop-place.invariant.count);
    }

pub returns : goal.returns
returns c =
    let none = none_left (soc_value c.args.soc.now).modules c.loop-place.place (omega (arith, length-map c.args.soc.now.modules.entries (λ (e : ℕ × Module). module_value e.1), c.len-place-end.ensures.len, c.loop-place-test.false)) in
    let own : c.len.result ≡ length (map test_value c.args.job.now.tests.items) = omega (arith, length-map c.args.job.now.tests.items test_value, c.len.ensures) in
    record {
      some_wires = c.requires.some;
      few_wires = c.requires.few;
      tests = omega (arith, none, c.loop-place.invariant.count, c.requires.tests);
      timed = c.loop-place.invariant.timed;
      before = record {
        long = length-map c.in_ok-before.before.items listed ∙ c.in_ok-before.ensures.long ∙ own;
        are = λ test within. c.in_ok-before.ensures.lists test (subst (λ (n : ℕ). test < n) (sym own) within) ∙ ap (tests_before test) c.deref.ensures.value;
      };
    }

pub all_before-requires : goal.all_before-requires
all_before-requires c =
    let own : c.len.result ≡ length (map test_value c.args.job.now.tests.items) = omega (arith, length-map c.args.job.now.tests.items test_value, c.len.ensures) in
    subst (λ (l : List (ℕ × ℕ)). All (λ (p : ℕ × ℕ). (p.0 < c.len.result) × (p.1 < c.len.result)) l) (sym c.deref.ensures.value)
    (subst (λ (n : ℕ). All (λ (p : ℕ × ℕ). (p.0 < n) × (p.1 < n)) c.args.job.now.before.items) (sym own) c.requires.job.in_range)
