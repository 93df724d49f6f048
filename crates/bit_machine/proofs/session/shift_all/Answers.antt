use Rattle.std.proofs.Common.{[], false, ◌∙◌, ap, arith}
use Rattle.plan_model.specs.Runs.{last_bit}
use Rattle.bit_machine.specs.Sessions.{entered}
use Rattle.bit_machine.proofs.Steps.{item_before, step_chain, step_map}
use Rattle.bit_machine.proofs.session.shift_all.Goals as goal

pub loop-place-preserved : goal.loop-place-preserved
loop-place-preserved c =
    let shown = c.last.ensures ∙ ap last_bit (item_before entered c.args.drive.now c.args.chains.now c.loop-place.place _ c.loop-place.invariant.0 c.loop-place-test.true) in (
      step_chain entered c.args.drive.now c.args.chains.now c.loop-place.place _ c.loop-place.invariant.0 false c.enter.new.self (omega (arith, c.loop-place-test.true, c.requires.driven)) c.loop-place-test.true c.enter.ensures,
      step_map last_bit c.args.chains.now c.args.read.now c.loop-place.place [] c.loop-place-test.true (omega (arith, c.loop-place-test.true, c.requires.shown)) c.loop-place.invariant.1 shown,
    )
