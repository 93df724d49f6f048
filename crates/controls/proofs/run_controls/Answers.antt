use Rattle.std.proofs.Common.{◌≡◌, List, [], ◌∷◌, ◌++◌, ◌∙◌, ap, sym, append_assoc, rules, flat_map}
use Rattle.soc_model.specs.Chips.{module_value, soc_value}
use Rattle.soc_model.proofs.Entries.{modules-at_start}
use Rattle.controls.specs.Controls.{runs_in}
use Rattle.controls.proofs.Listing.{runs_are}
use Rattle.controls.proofs.run_controls.Goals as goal

from_none : {X : Type 0} (none a b : List X) → none ≡ [] → a ≡ b → none ++ a ≡ b
from_none none a b e f = ap (λ l. l ++ a) e ∙ f

pub loop-module-init : goal.loop-module-init
loop-module-init c =
    let starts = c.into_iter-module-iterator.ensures.into_iter_gives ∙ c.values-module-items.ensures.rest in
    let modules = modules-at_start c.args.soc.now _ starts in
    from_none _ _ _ (search rules) (ap (flat_map runs_in) (sym modules) ∙ runs_are (soc_value c.args.soc.now))

-- the list so far, after the controls of a module
moved_on : {X : Type 0} (old new here rest whole : List X) → new ≡ old ++ here → old ++ (here ++ rest) ≡ whole → new ++ rest ≡ whole
moved_on old new here rest whole e f = ap (λ l. l ++ rest) e ∙ append_assoc old here rest ∙ f

pub loop-module-preserved : goal.loop-module-preserved
loop-module-preserved c =
    let goes : c.loop-module.module-iterator ≡ c.in-Some.module.now ∷ c.next.new.self = search rules in
    let before = c.loop-module.invariant in
    let before' = rw goes at before in
    moved_on _ _ (runs_in (module_value c.in-Some.module.now)) _ _ c.in_ok-push_runs.ensures before'
