use Rattle.std.proofs.Common.{arith}
use Rattle.plan_model.proofs.ByDivision.{capture_at_division, shift_at_division, block_fits}
use Rattle.plan_model.proofs.moments.Phases.in_block.Goals as goal

pub overflow_add-result : goal.overflow_add-result
overflow_add-result c =
    let below = block_fits c.args.self.now c.args.cycle c.max-period.result c.requires.phases.some c.requires.active c.max-period.ensures in
    omega (arith, below, c.requires.phases.few)

pub capture_after-ahead-requires : goal.capture_after-ahead-requires
capture_after-ahead-requires c =
    let below = block_fits c.args.self.now c.args.cycle c.max-period.result c.requires.phases.some c.requires.active c.max-period.ensures in
    omega (arith, below, c.requires.phases.few)

pub returns-then-place-eq0 : goal.returns-then-place-eq0
returns-then-place-eq0 c = capture_at_division c.args.self.now c.args.cycle c.max-period.result c.requires.phases.some c.requires.active c.max-period.ensures c.if-place-eq0.true

pub returns : goal.returns
returns c = shift_at_division c.args.self.now c.args.cycle c.max-period.result c.capture_after-ahead.result c.requires.phases.some c.requires.active c.max-period.ensures c.if-place-eq0.false c.capture_after-ahead.ensures
