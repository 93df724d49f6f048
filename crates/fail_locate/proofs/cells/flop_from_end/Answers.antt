use Rattle.std.proofs.Common.{◌≡◌, ℕ, ◌-◌, length, get_or, reverse, refl, ap, subst, arith, slice_get, flat_map}
use Rattle.std.proofs.lemmas.List.{take_all}
use Rattle.plan_model.specs.Cells.{flops}
use Rattle.fail_locate.proofs.EndCells.{turned, flop_here, flop_before}
use Rattle.fail_locate.proofs.cells.flop_from_end.Goals as goal

pub loop-place-init : goal.loop-place-init
loop-place-init c = record {
  within = omega arith;
  same = ap (λ xs. slice_get (reverse (flat_map (flops c.args.lengths.now) xs)) c.args.shifts) (take_all (length c.args.scans.now) c.args.scans.now (omega arith));
}

pub returns-then-left-flops : goal.returns-then-left-flops
returns-then-left-flops c =
    flop_here c.args.lengths.now c.args.scans.now (c.loop-place.place - 1) c.loop-place.place (get_or c.args.scans.now (c.loop-place.place - 1) 0) c.loop-place.left _ _ (omega (arith, c.loop-place-test.true)) (omega (arith, c.loop-place-test.true, c.loop-place.invariant.within)) refl c.if-left-flops.true refl c.loop-place.invariant.same

pub loop-place-preserved : goal.loop-place-preserved
loop-place-preserved c = record {
  within = omega (arith, c.loop-place.invariant.within);
  same = flop_before c.args.lengths.now c.args.scans.now (c.loop-place.place - 1) c.loop-place.place (get_or c.args.scans.now (c.loop-place.place - 1) 0) c.loop-place.left _ _ (omega (arith, c.loop-place-test.true)) (omega (arith, c.loop-place-test.true, c.loop-place.invariant.within)) refl (omega (arith, c.if-left-flops.false)) c.loop-place.invariant.same;
}

pub returns : goal.returns
returns c =
    let none : c.loop-place.place ≡ 0 = omega (arith, c.loop-place-test.false) in
    subst (λ (n : ℕ). slice_get (turned c.args.lengths.now c.args.scans.now n) c.loop-place.left ≡ slice_get (reverse (flat_map (flops c.args.lengths.now) c.args.scans.now)) c.args.shifts) none c.loop-place.invariant.same
