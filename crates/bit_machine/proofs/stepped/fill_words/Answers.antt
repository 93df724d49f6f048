use Rattle.std.proofs.Common.{◌∙◌, arith}
use Rattle.std.proofs.lemmas.List.{length-set}
use Rattle.bit_machine.proofs.LaneSteps.{words_more}
use Rattle.bit_machine.proofs.stepped.fill_words.Goals as goal

pub loop-place-preserved : goal.loop-place-preserved
loop-place-preserved c = record {
  many = length-set c.loop-place.words c.loop-place.place c.word_from.result ∙ c.loop-place.invariant.many;
  done = words_more c.args.line.now c.args.first c.args.paths.now c.loop-place.words c.loop-place.place c.index-paths-place.result c.word_from.result
      (omega (arith, c.loop-place-test.true, c.loop-place.auto.words)) c.word_from.ensures c.loop-place.invariant.done;
}
