use Rattle.std.proofs.Common.{◌∙◌, ap, arith, sum}
use Rattle.std.proofs.lemmas.List.{take_all}
use Rattle.vector_lines.proofs.Layouts.{starts_more}
use Rattle.vector_lines.proofs.layout.starts_of.Goals as goal

pub loop-length-preserved : goal.loop-length-preserved
loop-length-preserved c = starts_more c.args.lengths.now c.loop-length.starts.items c.loop-length-test.true c.loop-length.invariant.0 c.loop-length.invariant.1 c.loop-length.invariant.2 c.in_ok-push.ensures.ok

pub returns : goal.returns
returns c = record {
  starts = record {
    long = omega (arith, c.loop-length.invariant.1, c.loop-length-test.false, c.loop-length.auto.length-index-end);
    start = λ k inside. c.loop-length.invariant.2 k (omega (arith, inside, c.loop-length-test.false));
  };
  flops = c.loop-length.invariant.0 ∙ ap sum (take_all c.loop-length.length-index c.args.lengths.now c.loop-length-test.false);
}
