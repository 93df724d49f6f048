use Rattle.std.proofs.Common.{refl, reverse, ap, ◌∙◌, ◌-◌, arith, slice_get, flat_map}
use Rattle.plan_model.specs.Cells.{flops}
use Rattle.fail_locate.proofs.EndCells.{out_here, flop_there}
use Rattle.fail_locate.proofs.cells.read_from_end.Goals as goal

pub returns-then-shifts-chain : goal.returns-then-shifts-chain
returns-then-shifts-chain c = out_here c.args.lengths.now c.args.chain.now.scans.items c.args.outs_from c.args.chain.now.outs c.args.shifts _ c.if-shifts-chain.true refl

pub returns : goal.returns
returns c =
    flop_there c.args.lengths.now c.args.chain.now.scans.items c.args.outs_from c.args.chain.now.outs c.args.shifts (c.args.shifts - c.args.chain.now.outs) _ (omega (arith, c.if-shifts-chain.false))
    (c.flop_from_end.ensures ∙ ap (λ xs. slice_get (reverse (flat_map (flops c.args.lengths.now) xs)) (c.args.shifts - c.args.chain.now.outs)) c.deref.ensures.value)
