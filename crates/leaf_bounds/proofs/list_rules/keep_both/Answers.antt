use Rattle.std.proofs.Common.{◌<◌, ◌∙◌, length, arith, rules}
use Rattle.std.proofs.lemmas.List.{length-set}
use Rattle.leaf_bounds.proofs.ListRows.{both_more}
use Rattle.leaf_bounds.proofs.list_rules.keep_both.Goals as goal

pub loop-place-preserved : goal.loop-place-preserved
loop-place-preserved c =
    let within : c.loop-place.place < length c.args.others.now = search rules in
    record {
      long = length-set c.loop-place.marks c.loop-place.place c.both_at.result ∙ c.loop-place.invariant.long;
      marks = both_more c.args.marks.now c.args.others.now c.loop-place.place (omega (arith, within, c.requires)) within c.loop-place.invariant.marks c.both_at.ensures;
    }
