use Rattle.std.proofs.Common.{◌∙◌, sym, arith, get_or, map}
use Rattle.plan_model.specs.Views.{profile_value}
use Rattle.bound_rules.proofs.Works.{no_test, work_at, live_patterns}
use Rattle.bound_rules.proofs.Energies.{next_energy}
use Rattle.bound_rules.proofs.energy.module_energy.Goals as goal

pub time-length-requires : goal.time-length-requires
time-length-requires c =
    let live = sym c.live.ensures ∙ c.if-live.true in
    record {
      width = c.requires.some_wire;
      live = live_patterns (get_or c.args.tests.now c.loop-test.test-index no_test) live;
      fitting = c.requires.fitting;
      work = omega (arith, work_at c.args.sizes.now c.args.tests.now c.loop-test.test-index no_test c.loop-test-test.true live, c.requires.work);
    }

pub overflow_add-sum : goal.overflow_add-sum
overflow_add-sum c =
    let live = sym c.live.ensures ∙ c.if-live.true in
    rw (c.loop-test.invariant, c.test_energy-sum.ensures, c.time-length.ensures.time)
    (omega (arith, next_energy c.args.sizes.now c.args.number (map profile_value c.args.profiles.now.list.now) c.args.wires c.args.tests.now c.loop-test.test-index no_test c.loop-test-test.true live, c.requires.fits))
