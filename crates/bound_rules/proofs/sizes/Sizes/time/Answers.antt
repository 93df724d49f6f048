use Rattle.std.proofs.Common.{◌∙◌, sym, arith}
use Rattle.plan_model.proofs.OperationCounts.{ops_length}
use Rattle.bound_rules.proofs.Works.{closed-le, time_by-le, tam_time_is, self_time_is}
use Rattle.bound_rules.proofs.sizes.Sizes.time.Goals as goal

pub closed_time-requires-clause-bounded : goal.closed_time-requires-clause-bounded
closed_time-requires-clause-bounded c =
    rw (c.chain_length-si.ensures, c.chain_length-so.ensures) (omega (arith, closed-le c.args.self.now c.args.test.now c.args.width c.requires.width c.requires.live c.requires.fitting c.if-test.true, c.requires.work))

pub returns-then-test-clause-time : goal.returns-then-test-clause-time
returns-then-test-clause-time c =
    c.closed_time.ensures.time ∙ rw (c.chain_length-si.ensures, c.chain_length-so.ensures)
    (ops_length _ _ _ _ c.requires.live ∙ sym (tam_time_is c.args.self.now c.args.test.now c.args.width c.requires.live c.if-test.true))

pub returns-else-test-clause-time : goal.returns-else-test-clause-time
returns-else-test-clause-time c = sym (self_time_is c.args.self.now c.args.test.now c.args.width c.if-test.false)

pub returns-then-test-clause-small : goal.returns-then-test-clause-small
returns-then-test-clause-small c = omega (arith, returns-then-test-clause-time c, time_by-le c.args.self.now c.args.test.now c.args.width c.requires.width c.requires.live c.requires.fitting)

pub returns-else-test-clause-small : goal.returns-else-test-clause-small
returns-else-test-clause-small c = omega (arith, returns-else-test-clause-time c, time_by-le c.args.self.now c.args.test.now c.args.width c.requires.width c.requires.live c.requires.fitting)
