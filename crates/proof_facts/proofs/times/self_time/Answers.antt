use Rattle.std.proofs.Common.{◌∙◌, sym, ap, arith, get_or}
use Rattle.soc_model.specs.Chips.{module_value}
use Rattle.bound_rules.proofs.Works.{no_test}
use Rattle.proof_facts.specs.Times.{works_of}
use Rattle.proof_facts.proofs.TestTimes.{next_self, self_from, self_front-le}
use Rattle.proof_facts.proofs.times.self_time.Goals as goal

pub overflow_add-sum : goal.overflow_add-sum
overflow_add-sum c =
    omega (
      arith,
      c.loop-test.invariant,
      c.requires.work,
      ap (works_of (module_value c.args.module.now)) c.deref-test-items.ensures.value,
      next_self (module_value c.args.module.now) c.deref-test-items.result.now c.loop-test.test-index no_test c.loop-test-test.true
          (self_from (get_or c.deref-test-items.result.now c.loop-test.test-index no_test) (sym c.live.ensures ∙ c.if-live.true) c.if-not-test.true),
    )

pub returns-clause-small : goal.returns-clause-small
returns-clause-small c =
    omega (
      arith,
      c.loop-test.invariant,
      c.requires.work,
      ap (works_of (module_value c.args.module.now)) c.deref-test-items.ensures.value,
      self_front-le (module_value c.args.module.now) c.deref-test-items.result.now c.loop-test.test-index,
    )
