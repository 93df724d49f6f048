use Rattle.std.proofs.Common.{ap, sym, ◌∙◌, subst}
use Rattle.std.specs.Prelude.{slice_get}
use Rattle.soc_model.specs.Chips.{module_value}
use Rattle.soc_model.specs.SoundChips.{IsSoundChip}
use Rattle.width_table.specs.Tables.{TableValue}
use Rattle.width_table.proofs.TestTimes.{test_fits, test_time_is}
use Rattle.width_table.proofs.WidthTable.cycles.Goals as goal

pub closed_time-requires-clause-bounded : goal.closed_time-requires-clause-bounded
closed_time-requires-clause-bounded c =
    let at = ap (λ (v : TableValue). slice_get v.soc.modules c.args.place) (sym c.self.view_is) ∙ c.module_at.ensures in
    test_fits c.args.self.now.soc c.args.place (module_value c.module_at.result.now) c.args.test.now c.args.width c.choice-choice.result (subst (λ (v : TableValue). IsSoundChip v.soc) c.self.view_is c.self.invariant.sound) at c.requires.there c.requires.live c.requires.tam c.choice-choice.ensures

pub returns-clause-cycles : goal.returns-clause-cycles
returns-clause-cycles c =
    let at = ap (λ (v : TableValue). slice_get v.soc.modules c.args.place) (sym c.self.view_is) ∙ c.module_at.ensures in
    test_time_is c.args.self.now.soc.modules c.args.place (module_value c.module_at.result.now) c.args.test.now c.args.width c.closed_time.result c.choice-choice.result at c.requires.there c.requires.live c.requires.tam c.choice-choice.ensures c.closed_time.ensures.time
