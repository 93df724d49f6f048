use Rattle.std.proofs.Common.{◌≡◌, List, [], ◌++◌, ◌∙◌, map, ap, sym, rules, filter}
use Rattle.soc_model.specs.Chips.{ModuleValue}
use Rattle.soc_model.specs.Modes.{has_tam}
use Rattle.soc_model.proofs.Entries.{modules-at_start}
use Rattle.controls.proofs.tam_modules.Goals as goal

from_none : {X : Type 0} (none a b : List X) → none ≡ [] → a ≡ b → none ++ a ≡ b
from_none none a b e f = ap (λ l. l ++ a) e ∙ f

pub loop-module-init : goal.loop-module-init
loop-module-init c =
    let starts = c.into_iter-module-iterator.ensures.into_iter_gives ∙ c.values-module-items.ensures.rest in
    let modules = modules-at_start c.args.soc.now _ starts in
    from_none _ _ _ (search rules) (ap (λ (ms : List ModuleValue). map (λ (m : ModuleValue). m.number) (filter has_tam ms)) (sym modules))
