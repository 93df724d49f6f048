use Rattle.std.proofs.Common.{rules, ◌≡◌, ℕ, length, take, arith}
use Rattle.std.proofs.lemmas.List.{length-map}
use Rattle.soc_model.specs.declared.Module.{Module}
use Rattle.soc_model.specs.Chips.{soc_value, module_value, live_from}
use Rattle.leaf_bounds.proofs.TestTables.{at_start, at_more, starts_more, at_end, starts_end}
use Rattle.leaf_bounds.proofs.test_table.test_table.Goals as goal

pub loop-place-init : goal.loop-place-init
loop-place-init c = record { tests = at_start (soc_value c.args.soc.now) c.args.limits.now c.new-tests.result.items c.new-tests.ensures.items; starts = c.new-starts.ensures.items }

pub loop-place-preserved : goal.loop-place-preserved
loop-place-preserved c =
    let len : c.len.result ≡ length c.loop-place.tests.items = search rules in
    record {
      tests = at_more (soc_value c.args.soc.now) c.args.limits.now c.push_tests.new.tests.items c.loop-place.place (module_value c.module_at.result.now) c.module_at.ensures
          (c.in_ok-push_tests.ensures (soc_value c.args.soc.now) (live_from 0 (take c.loop-place.place (soc_value c.args.soc.now).modules)) c.module_at.ensures c.loop-place.invariant.tests);
      starts = starts_more (soc_value c.args.soc.now) c.args.limits.now c.loop-place.tests.items c.loop-place.place c.len.result c.loop-place.starts.items c.push.new.to.items len c.in_ok-push.ensures.ok c.loop-place.invariant.tests c.loop-place.invariant.starts;
    }

pub returns : goal.returns
returns c =
    let long : length (soc_value c.args.soc.now).modules ≡ length c.args.soc.now.modules.entries = length-map c.args.soc.now.modules.entries (λ (e : ℕ × Module). module_value e.1) in
    let len : c.len-2.result ≡ length c.loop-place.tests.items = search rules in
    let end : c.loop-place.place ≡ length (soc_value c.args.soc.now).modules = omega (arith, long, c.len-place-end.ensures.len, c.loop-place-test.false, c.loop-place.auto.place-end) in
    record {
      tests = at_end (soc_value c.args.soc.now) c.args.limits.now c.loop-place.tests.items c.loop-place.place end c.loop-place.invariant.tests;
      starts = starts_end (soc_value c.args.soc.now) c.args.limits.now c.loop-place.tests.items c.loop-place.place c.len-2.result c.loop-place.starts.items c.push-2.new.to.items end len c.in_ok-push-2.ensures.ok c.loop-place.invariant.tests c.loop-place.invariant.starts;
    }
