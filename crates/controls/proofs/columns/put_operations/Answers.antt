use Rattle.std.proofs.Common.{◌+◌, ◌-◌, length, arith}
use Rattle.controls.proofs.Marking.{put_to_start, put_to_end, spell_more}
use Rattle.controls.proofs.columns.put_operations.Goals as goal
use Rattle.common_lemmas.proofs.Numbers.{block_fits}

pub loop-cycle-init : goal.loop-cycle-init
loop-cycle-init c = put_to_start c.args.own c.args.test.now c.args.columns c.args.from c.args.count c.args.text.now c.max-cycle.ensures

pub overflow_sub-cycle : goal.overflow_sub-cycle
overflow_sub-cycle c = c.loop-cycle.invariant.begun

pub spell_at-spell-requires-clause-active : goal.spell_at-spell-requires-clause-active
spell_at-spell-requires-clause-active c =
    let ends = c.requires.test.ends in
    let begun = c.loop-cycle.invariant.begun in
    omega (arith, ends, begun, c.min-end.ensures, c.loop-cycle-test.true)

pub overflow_sub-row : goal.overflow_sub-row
overflow_sub-row c = c.loop-cycle.invariant.on

pub put_action-requires-clause-rows : goal.put_action-requires-clause-rows
put_action-requires-clause-rows c =
    let long = c.loop-cycle.invariant.long in
    let on = c.loop-cycle.invariant.on in
    let room = block_fits (c.loop-cycle.cycle - c.args.from + c.min-going.result) c.args.count c.args.columns (length c.args.text.now) (omega (arith, on, c.min-going.ensures, c.min-end.ensures, c.loop-cycle-test.true)) c.requires.rows in
    omega (arith, room, long)

pub loop-cycle-preserved : goal.loop-cycle-preserved
loop-cycle-preserved c =
    spell_more c.requires.test c.loop-cycle.invariant c.min-end.ensures (omega (arith, c.min-going.ensures, c.loop-cycle-test.true)) (omega (arith, c.min-going.ensures)) c.spell_at-spell.ensures.goes_on c.put_action.ensures

pub returns : goal.returns
returns c = put_to_end c.requires.test c.loop-cycle.invariant (omega (arith, c.min-end.ensures, c.loop-cycle-test.false))
