use Rattle.std.proofs.Common.{◌∙◌, ◌+◌, sym, arith}
use Rattle.soc_model.specs.Chips.{module_value}
use Rattle.bound_rules.proofs.Works.{live_patterns}
use Rattle.bound_rules.proofs.Modules.{module_size-le_work}
use Rattle.proof_facts.proofs.LeastTimes.{packed_self_test}
use Rattle.proof_facts.proofs.TestTimes.{packed_chain, tam_packed, formula-le}
use Rattle.proof_facts.proofs.times.test_time.Goals as goal

pub returns-then-not-test-clause-time : goal.returns-then-not-test-clause-time
returns-then-not-test-clause-time c = sym (packed_self_test (module_value c.args.module.now) c.args.test.now c.args.packing.now.width c.if-not-test.true)

pub chain_length-si-requires-clause-fits : goal.chain_length-si-requires-clause-fits
chain_length-si-requires-clause-fits c =
    omega (arith, c.requires.packing.flops_are, c.requires.work, module_size-le_work (module_value c.args.module.now) c.args.test.now (live_patterns c.args.test.now c.requires.live))

pub chain_length-so-requires-clause-fits : goal.chain_length-so-requires-clause-fits
chain_length-so-requires-clause-fits c =
    omega (arith, c.requires.packing.flops_are, c.requires.work, module_size-le_work (module_value c.args.module.now) c.args.test.now (live_patterns c.args.test.now c.requires.live))

pub closed_time-requires-clause-bounded : goal.closed_time-requires-clause-bounded
closed_time-requires-clause-bounded c =
    omega (
      arith,
      c.requires.work,
      formula-le (module_value c.args.module.now) c.args.test.now c.args.packing.now.width c.chain_length-si.result c.chain_length-so.result c.if-not-test.false (live_patterns c.args.test.now c.requires.live) c.requires.packing.some_wire
          (c.chain_length-si.ensures ∙ packed_chain (module_value c.args.module.now) c.args.test.now c.args.packing.now c.requires.packing (c.args.module.now.inputs + c.args.module.now.bidirs))
          (c.chain_length-so.ensures ∙ packed_chain (module_value c.args.module.now) c.args.test.now c.args.packing.now c.requires.packing (c.args.module.now.outputs + c.args.module.now.bidirs)),
    )

pub returns-clause-time : goal.returns-clause-time
returns-clause-time c =
    let ins = c.chain_length-si.ensures ∙ packed_chain (module_value c.args.module.now) c.args.test.now c.args.packing.now c.requires.packing (c.args.module.now.inputs + c.args.module.now.bidirs) in
    let outs = c.chain_length-so.ensures ∙ packed_chain (module_value c.args.module.now) c.args.test.now c.args.packing.now c.requires.packing (c.args.module.now.outputs + c.args.module.now.bidirs) in
    c.closed_time.ensures.time ∙ rw (ins, outs) (sym (tam_packed (module_value c.args.module.now) c.args.test.now c.args.packing.now.width c.if-not-test.false))
