use Rattle.std.proofs.Common.{◌≡◌, ◌∙◌, ◌<◌, ℕ, Option, Some, List, [], ◌∷◌, ◌++◌, length, get_or, reverse, sym, ap, subst, arith, rules, slice_get, Contains}
use Rattle.std.proofs.lemmas.List.{length-map}
use Rattle.std.proofs.lemmas.List.Elements.{Contains-get_or}
use Rattle.soc_model.specs.declared.TestId.{TestId}
use Rattle.bound_certificate.specs.declared.nodes.PrecedenceNode.{PrecedenceNode}
use Rattle.bound_certificate.specs.Nodes.{node_value, node_values}
use Rattle.bound_certificate.specs.Chains.{IsBest}
use Rattle.bound_certificate.proofs.SumSteps.{node_here}
use Rattle.bound_certificate.proofs.WayBack.{way_starts, way_goes, way_ends}
use Rattle.bound_certificate.proofs.chains.chain_to.Goals as goal

pub loop-earlier-init : goal.loop-earlier-init
loop-earlier-init c =
    let n = c.index-nodes-last.result in
    let at = node_here c.args.nodes.now c.args.last n c.requires.within c.index-nodes-last.is in
    let pushed : c.push.new.to.items ≡ n.id ∷ [] = search rules in
    record {
      within = c.requires.within;
      leads = λ soc limits are right. way_starts soc limits (node_values c.args.nodes.now) c.args.sums.now are right c.args.last (node_value n) c.push.new.to.items at pushed;
    }

pub best_of-requires : goal.best_of-requires
best_of-requires c = λ k d less.
    let nodes = node_values c.args.nodes.now in
    let n = c.index-nodes-test.result in
    let at : slice_get nodes c.loop-earlier.test ≡ Some (node_value n) = node_here c.args.nodes.now c.loop-earlier.test n c.loop-earlier.invariant.within c.index-nodes-test.is in
    let items : c.deref.result.now ≡ n.before.items = c.deref.ensures.value ∙ ap (λ (n : PrecedenceNode). n.before.items) (sym c.index-nodes-test.is) in
    let before = subst (λ (l : List ℕ). Contains l (get_or c.deref.result.now k d)) items (Contains-get_or c.deref.result.now k d less) in
    let falls = c.requires.fall (get_or c.deref.result.now k d) c.loop-earlier.test (node_value n) at before in
    omega (arith, falls.0, length-map c.args.nodes.now node_value, c.requires.long)

pub loop-earlier-smaller : goal.loop-earlier-smaller
loop-earlier-smaller c =
    let nodes = node_values c.args.nodes.now in
    let n = c.index-nodes-test.result in
    let at : slice_get nodes c.loop-earlier.test ≡ Some (node_value n) = node_here c.args.nodes.now c.loop-earlier.test n c.loop-earlier.invariant.within c.index-nodes-test.is in
    let items : c.deref.result.now ≡ n.before.items = c.deref.ensures.value ∙ ap (λ (n : PrecedenceNode). n.before.items) (sym c.index-nodes-test.is) in
    let best = subst (λ (o : Option ℕ). IsBest c.args.sums.now (Contains c.deref.result.now) o) c.in-Some.is c.best_of.ensures.best in
    (c.requires.fall c.in-Some.earlier c.loop-earlier.test (node_value n) at (subst (λ (l : List ℕ). Contains l c.in-Some.earlier) items best.0)).1

pub loop-earlier-preserved : goal.loop-earlier-preserved
loop-earlier-preserved c =
    let nodes = node_values c.args.nodes.now in
    let n = c.index-nodes-test.result in
    let m = c.index-nodes-test-in-Some.result in
    let at : slice_get nodes c.loop-earlier.test ≡ Some (node_value n) = node_here c.args.nodes.now c.loop-earlier.test n c.loop-earlier.invariant.within c.index-nodes-test.is in
    let items : c.deref.result.now ≡ n.before.items = c.deref.ensures.value ∙ ap (λ (n : PrecedenceNode). n.before.items) (sym c.index-nodes-test.is) in
    let best = subst (λ (o : Option ℕ). IsBest c.args.sums.now (Contains c.deref.result.now) o) c.in-Some.is c.best_of.ensures.best in
    let best_here = subst (λ (l : List ℕ). IsBest c.args.sums.now (Contains l) (Some c.in-Some.earlier)) items best in
    let falls = c.requires.fall c.in-Some.earlier c.loop-earlier.test (node_value n) at best_here.0 in
    let within : c.in-Some.earlier < length c.args.nodes.now = omega (arith, falls.0, length-map c.args.nodes.now node_value) in
    let pushed : c.push-in-Some.new.to.items ≡ c.loop-earlier.chain.items ++ m.id ∷ [] = search rules in
    record {
      within = within;
      leads = λ soc limits are right. way_goes soc limits nodes c.args.sums.now are right c.args.last c.loop-earlier.test c.in-Some.earlier (node_value n) (node_value m) c.loop-earlier.chain.items c.push-in-Some.new.to.items
          (c.loop-earlier.invariant.leads soc limits are right) at (node_here c.args.nodes.now c.in-Some.earlier m within c.index-nodes-test-in-Some.is) best_here pushed;
    }

pub returns : goal.returns
returns c = λ soc limits end are right at_end.
    let nodes = node_values c.args.nodes.now in
    let n = c.index-nodes-test.result in
    let at : slice_get nodes c.loop-earlier.test ≡ Some (node_value n) = node_here c.args.nodes.now c.loop-earlier.test n c.loop-earlier.invariant.within c.index-nodes-test.is in
    let items : c.deref.result.now ≡ n.before.items = c.deref.ensures.value ∙ ap (λ (n : PrecedenceNode). n.before.items) (sym c.index-nodes-test.is) in
    let none = c.in_default.ensures.best in
    let w = way_ends soc limits nodes c.args.sums.now are right c.args.last c.loop-earlier.test end (node_value n) c.loop-earlier.chain.items (c.loop-earlier.invariant.leads soc limits are right) at_end at (subst (λ (l : List ℕ). (p : ℕ) → Contains l p → ⊥) items none) in
    let turned : c.reverse.new.self.items ≡ reverse c.loop-earlier.chain.items = search rules in
    (w.0, turned ∙ ap (λ (l : List TestId). reverse l) w.1, w.2)
