use Rattle.std.proofs.Common.{◌∙◌, sym, ap, arith}
use Rattle.soc_model.specs.Chips.{module_value}
use Rattle.bound_rules.proofs.Works.{no_test}
use Rattle.proof_facts.specs.Times.{works_of}
use Rattle.proof_facts.proofs.TestTimes.{next_tam, tam_front-le}
use Rattle.proof_facts.proofs.times.tam_time.Goals as goal

pub overflow_add-sum : goal.overflow_add-sum
overflow_add-sum c =
    omega (
      arith,
      c.loop-test.invariant,
      c.test_time-sum.ensures.time,
      c.requires.work,
      ap (works_of (module_value c.args.module.now)) c.deref-test-items.ensures.value,
      next_tam (module_value c.args.module.now) c.args.packing.now.width c.deref-test-items.result.now c.loop-test.test-index no_test c.requires.packing.some_wire c.loop-test-test.true (sym c.over_wires.ensures ∙ c.if-over_wires.true),
    )

pub returns-clause-small : goal.returns-clause-small
returns-clause-small c =
    omega (
      arith,
      c.loop-test.invariant,
      c.requires.work,
      ap (works_of (module_value c.args.module.now)) c.deref-test-items.ensures.value,
      tam_front-le (module_value c.args.module.now) c.args.packing.now.width c.deref-test-items.result.now c.loop-test.test-index c.requires.packing.some_wire,
    )
