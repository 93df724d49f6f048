use Rattle.std.proofs.Common.{◌≡◌, List, [], ◌∷◌, ◌++◌, ◌∙◌, ap, sym, subst, map, append_assoc, rules, All, flat_map}
use Rattle.std.proofs.lemmas.List.Elements.{All-head, All-tail}
use Rattle.soc_model.specs.declared.Module.{Module}
use Rattle.soc_model.specs.Chips.{ModuleValue, module_value, soc_value}
use Rattle.soc_model.proofs.Entries.{modules-at_start}
use Rattle.bound_rules.specs.Sizes.{IsMeasurable}
use Rattle.bound_certificate.specs.Nodes.{nodes_in}
use Rattle.bound_rules.proofs.SoundWork.{all_measurable}
use Rattle.bound_certificate.proofs.nodes.live_nodes.Goals as goal

from_none : {X : Type 0} (none a b : List X) → none ≡ [] → a ≡ b → none ++ a ≡ b
from_none none a b e f = ap (λ l. l ++ a) e ∙ f

pub loop-module-init : goal.loop-module-init
loop-module-init c =
    let starts = c.into_iter-module-iterator.ensures.into_iter_gives ∙ c.values-module-items.ensures.rest in
    let modules = modules-at_start c.args.soc.now _ starts in
    record {
      nodes = from_none _ _ _ (search rules) (ap (flat_map (nodes_in c.args.wires)) (sym modules));
      works = subst (λ (ms : List ModuleValue). All IsMeasurable ms) modules (all_measurable (soc_value c.args.soc.now) c.requires.sound);
    }

-- the list so far, after the nodes of a module
moved_on : {X : Type 0} (old new here rest whole : List X) → new ≡ old ++ here → old ++ (here ++ rest) ≡ whole → new ++ rest ≡ whole
moved_on old new here rest whole e f = ap (λ l. l ++ rest) e ∙ append_assoc old here rest ∙ f

pub push_live-requires-clause-works : goal.push_live-requires-clause-works
push_live-requires-clause-works c =
    let goes : c.loop-module.module-iterator ≡ c.in-Some.module.now ∷ c.next.new.self = search rules in
    let works = subst (λ (ms : List Module). All IsMeasurable (map module_value ms)) goes c.loop-module.invariant.works in
    All-head IsMeasurable (module_value c.in-Some.module.now) (map module_value c.next.new.self) works

pub loop-module-preserved : goal.loop-module-preserved
loop-module-preserved c =
    let goes : c.loop-module.module-iterator ≡ c.in-Some.module.now ∷ c.next.new.self = search rules in
    let works = subst (λ (ms : List Module). All IsMeasurable (map module_value ms)) goes c.loop-module.invariant.works in
    let nodes = c.loop-module.invariant.nodes in
    let nodes' = rw goes at nodes in
    record {
      nodes = moved_on _ _ (nodes_in c.args.wires (module_value c.in-Some.module.now)) _ _ c.in_ok-push_live.ensures nodes';
      works = All-tail IsMeasurable (module_value c.in-Some.module.now) (map module_value c.next.new.self) works;
    }
