use Rattle.std.proofs.Common.{ℕ, ◌<◌, map, length, arith, refl, get_or}
use Rattle.wrapper_design.specs.Design.{filled}
use Rattle.wrapper_design.proofs.Chains.{scans_of, fill_step, fill_end, load_at, drop_next}
use Rattle.wrapper_design.proofs.dealing.fill_chains.Goals as goal

pub loop-place-preserved : goal.loop-place-preserved
loop-place-preserved c =
    let i = c.loop-place.invariant in
    let k : ℕ = c.loop-place.place in
    let less : c.loop-place.place < length c.loop-place.chains = omega arith in
    record {
      done = λ lengths is.
          fill_step lengths c.args.si c.args.so c.loop-place.ins c.loop-place.outs k (get_or c.args.loads.now c.loop-place.place 0) c.loop-place.chains c.index-chains-place.result _
          (filled lengths c.args.si c.args.ins c.args.so c.args.outs (map scans_of c.args.chains.now)) less
          (load_at lengths c.args.loads.now c.loop-place.chains c.args.chains.now k c.index-chains-place.result less (omega arith) i.rest is)
          c.min-chain.ensures c.min-chain-in-loop-place.ensures refl (i.done lengths is);
      rest = drop_next c.loop-place.chains c.args.chains.now k _ less (omega arith) i.rest;
    }

pub returns : goal.returns
returns c = λ lengths is. fill_end lengths c.args.si c.loop-place.ins c.args.so c.loop-place.outs c.loop-place.place c.loop-place.chains _ (omega arith) (c.loop-place.invariant.done lengths is)
