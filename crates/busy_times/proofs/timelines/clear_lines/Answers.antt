use Rattle.std.proofs.Common.{arith}
use Rattle.busy_times.proofs.Emptying.{clear_none, clear_more, clear_all}
use Rattle.busy_times.proofs.timelines.clear_lines.Goals as goal

pub loop-at-init : goal.loop-at-init
loop-at-init c = clear_none c.args.lines.now.items

pub loop-at-preserved : goal.loop-at-preserved
loop-at-preserved c =
    clear_more c.args.lines.now.items c.loop-at.lines.items c.loop-at.at c.index_mut.result.now c.clear_line.new.line
    (let long = c.loop-at.invariant.long in let lt = c.loop-at-test.true in omega (arith, long, lt, c.len-at-end.ensures, c.args.lines.now.ok.0)) c.index_mut.ensures.value c.clear_line.ensures.empty c.clear_line.ensures.room c.loop-at.invariant

pub returns : goal.returns
returns c =
    clear_all c.args.lines.now.items c.loop-at.lines.items c.loop-at.at
    (let long = c.loop-at.invariant.long in let end = c.loop-at-test.false in omega (arith, long, end, c.len-at-end.ensures, c.args.lines.now.ok.0)) c.loop-at.invariant
