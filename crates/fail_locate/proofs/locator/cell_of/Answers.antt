use Rattle.std.proofs.Common.{refl, sym, subst, List}
use Rattle.soc_model.specs.Chips.{soc_value, module_value}
use Rattle.plan_model.specs.Cells.{Cell}
use Rattle.plan_model.specs.Views.{plan_value}
use Rattle.plan_model.proofs.SoundChips.{module_size-le}
use Rattle.fail_locate.specs.Chains.{IsFromEnd, cells_at}
use Rattle.fail_locate.proofs.FoundSpots.{chains_at}
use Rattle.fail_locate.proofs.locator.cell_of.Goals as goal

pub cell_shown-requires-clause-small : goal.cell_shown-requires-clause-small
cell_shown-requires-clause-small c = module_size-le (soc_value c.args.soc.now) c.requires.sound c.args.test.now.place (module_value c.module_at-module.result.now) c.module_at-module.ensures

pub returns : goal.returns
returns c = λ u is.
    subst (λ (chains : List (List Cell)). IsFromEnd (cells_at chains c.args.chain) c.args.shifts c.cell_shown.result)
    (sym (chains_at (soc_value c.args.soc.now) (plan_value c.args.plan.now) u c.args.test.now is (module_value c.module_at-module.result.now) c.module_at-module.ensures c.args.plan.now.wrappers.items c.index-wrapper.result.now refl c.index-wrapper.ensures)) c.cell_shown.ensures
