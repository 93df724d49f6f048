use Rattle.std.proofs.Common.{◌∙◌, sym, ap, ◌++◌}
use Rattle.std.specs.List.{flat_map}
use Rattle.std.proofs.lemmas.List.Folds.{flat_map-map}
use Rattle.soc_model.specs.Chips.{module_value}
use Rattle.soc_model.proofs.Entries.{modules-at_start}
use Rattle.soc_printer.specs.SocText.{module_text}
use Rattle.soc_printer.proofs.push_modules.Goals as goal

pub loop-module-init : goal.loop-module-init
loop-module-init c =
    let starts = c.into_iter-module-iterator.ensures.into_iter_gives ∙ c.values-module-items.ensures.rest in
    ap (λ t. c.args.text.now.items ++ t) (sym (ap (flat_map module_text) (modules-at_start c.args.soc.now _ starts) ∙ flat_map-map module_text module_value _))
