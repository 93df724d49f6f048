use Rattle.std.proofs.Common.{refl, get_or}
use Rattle.vector_lines.specs.Building.{flop_numbers}
use Rattle.vector_lines.specs.Numbers.{all_numbers}
use Rattle.vector_lines.proofs.Numbering.{scans_more}
use Rattle.vector_lines.proofs.building.push_scans.Goals as goal

pub loop-scan-preserved : goal.loop-scan-preserved
loop-scan-preserved c = record {
  full = c.in_ok-push_flops.ensures.full;
  numbers = scans_more (all_numbers c.args.runs.now.items) (flop_numbers c.args.base c.args.layout.now.lengths.items) c.args.scans.now c.loop-scan.scan-index
      (get_or c.args.scans.now c.loop-scan.scan-index 0) c.loop-scan-test.true refl c.loop-scan.invariant.numbers c.in_ok-push_flops.ensures.numbers;
}
