use Rattle.std.proofs.Common.{arith}
use Rattle.std.proofs.lemmas.List.Sums.{sum_by_more}
use Rattle.width_tree.specs.Cases.{tam_time_of}
use Rattle.width_tree.specs.Tables.{chip_of}
use Rattle.width_tree.proofs.lists.times_of.Goals as goal

pub loop-number-preserved : goal.loop-number-preserved
loop-number-preserved c =
    let more = sum_by_more (tam_time_of (chip_of c.args.table.now) c.args.width) c.args.modules.now c.loop-number.number-index 0 c.loop-number-test.true in
    record {
      sum_is = omega (arith, more);
      few = omega arith;
    }
