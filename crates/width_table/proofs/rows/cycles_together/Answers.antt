use Rattle.std.proofs.Common.{◌≡◌, ◌+◌, ◌-◌, subst, arith, true, false}
use Rattle.soc_model.specs.Chips.{ModuleValue}
use Rattle.width_table.specs.Choices.{IsChoice, AreTimes}
use Rattle.width_table.proofs.LeastWidths.{time_from, push_time}
use Rattle.width_table.proofs.rows.cycles_together.Goals as goal

pub overflow_add-time : goal.overflow_add-time
overflow_add-time c =
    let m : ModuleValue = c.requires.choices.0 in
    let a : IsChoice m true c.loop-width.width c.at.result = c.at.ensures m true c.args.wires c.requires.choices.1 (omega (arith, c.loop-width-test.true)) in
    let b : IsChoice m false c.loop-width.width c.at-in-loop-width.result = c.at-in-loop-width.ensures m false c.args.wires c.requires.choices.2 (omega (arith, c.loop-width-test.true)) in
    omega (arith, a.fits, b.fits)

pub loop-width-preserved : goal.loop-width-preserved
loop-width-preserved c = λ m scan terminals.
    let a : IsChoice m true c.loop-width.width c.at.result = c.at.ensures m true c.args.wires scan (omega (arith, c.loop-width-test.true)) in
    let b : IsChoice m false c.loop-width.width c.at-in-loop-width.result = c.at-in-loop-width.ensures m false c.args.wires terminals (omega (arith, c.loop-width-test.true)) in
    let before : c.loop-width.width - 1 + 1 ≡ c.loop-width.width = omega arith in
    let after : c.loop-width.width + 1 - 1 ≡ c.loop-width.width - 1 + 1 = omega arith in
    rw (after, c.in_ok-push.ensures.items) (push_time m (c.loop-width.width - 1) _ c.loop-width.times.items (c.loop-width.invariant m scan terminals) (rw before (time_from m c.loop-width.width c.at.result c.at-in-loop-width.result a b)))

pub returns : goal.returns
returns c = λ m scan terminals.
    let all : c.loop-width.width - 1 ≡ c.args.wires = omega (arith, c.loop-width-test.false) in
    subst (λ n. AreTimes m n c.loop-width.times.items) all (c.loop-width.invariant m scan terminals)
