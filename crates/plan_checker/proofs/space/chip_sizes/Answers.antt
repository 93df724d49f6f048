use Rattle.soc_model.specs.Chips.{soc_value}
use Rattle.plan_checker.proofs.RoomSizes.{pairs_fit}
use Rattle.plan_checker.proofs.space.chip_sizes.Goals as goal

pub returns : goal.returns
returns c = record {
  modules = c.module_count-modules.ensures;
  pairs = pairs_fit (soc_value c.args.soc.now) c.module_count-modules.result c.in_ok-pairs.pairs c.module_count-modules.ensures c.in_ok-pairs.ensures.1;
  tests = c.in_ok-tests.ensures;
}
