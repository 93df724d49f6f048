use Rattle.std.proofs.Common.{◌∙◌, sym, arith, get_or}
use Rattle.soc_model.specs.Modes.{is_tam}
use Rattle.bound_rules.proofs.Works.{no_test, live_patterns, tam_only, work_at, next_at, take-le}
use Rattle.bound_rules.proofs.sizes.Sizes.tam_times.Goals as goal

pub time-sum-requires : goal.time-sum-requires
time-sum-requires c =
    let tam = sym c.over_wires.ensures ∙ c.if-over_wires.true in
    record {
      width = c.requires.width;
      live = live_patterns (get_or c.args.tests.now c.loop-test.test-index no_test) (tam_only (get_or c.args.tests.now c.loop-test.test-index no_test) tam);
      fitting = c.requires.fitting;
      work = omega (arith, work_at c.args.self.now c.args.tests.now c.loop-test.test-index no_test c.loop-test-test.true (tam_only (get_or c.args.tests.now c.loop-test.test-index no_test) tam), c.requires.work);
    }

pub overflow_add-sum : goal.overflow_add-sum
overflow_add-sum c =
    let tam = sym c.over_wires.ensures ∙ c.if-over_wires.true in
    omega (arith, c.loop-test.invariant, c.time-sum.ensures.time, c.requires.work, next_at is_tam c.args.self.now c.args.width c.args.tests.now c.loop-test.test-index no_test tam_only c.requires.width c.requires.fitting c.loop-test-test.true tam)

pub returns-clause-small : goal.returns-clause-small
returns-clause-small c =
    rw c.loop-test.invariant (take-le is_tam c.args.self.now c.args.width c.args.tests.now c.loop-test.test-index tam_only c.requires.width c.requires.fitting)
