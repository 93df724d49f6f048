use Rattle.std.proofs.Common.{◌≡◌, ◌≤◌, ℕ, Some, length, map, sym, ◌∙◌, subst, arith, List, slice_get}
use Rattle.std.proofs.lemmas.List.{length-map}
use Rattle.soc_model.specs.Chips.{module_value, soc_value}
use Rattle.soc_model.specs.declared.Module.{Module}
use Rattle.plan_model.specs.Views.{limits_value}
use Rattle.plan_model.specs.declared.proof.Node.{Node}
use Rattle.bus_proofs.specs.Walks.{named_in}
use Rattle.plan_model.specs.Proofs.{LeafValue, OfLeaf, node_value, proof_value}
use Rattle.leaf_bounds.proofs.LeafAnswers.{few_modules}
use Rattle.bus_proofs.proofs.ProofChecks.{new_room}
use Rattle.bus_proofs.proofs.check.ProofRoom.with_resolved.Goals as goal

pub new-requires-2-clause-modules : goal.new-requires-2-clause-modules
new-requires-2-clause-modules c =
    let long : c.len.result ≡ length (soc_value c.args.soc.now).modules = c.len.ensures.len ∙ sym (length-map c.args.soc.now.modules.entries (λ (e : ℕ × Module). module_value e.1)) in
    omega (arith, long, few_modules c.requires.sound)

pub invariant_of-result : goal.invariant_of-result
invariant_of-result c =
    let long : c.len.result ≡ length (soc_value c.args.soc.now).modules = c.len.ensures.len ∙ sym (length-map c.args.soc.now.modules.entries (λ (e : ℕ × Module). module_value e.1)) in
    let stack : length c.in_ok-stack.stack.items ≡ c.len-2.result = sym c.in_ok-stack.stack.ok.0 ∙ c.in_ok-stack.ensures.len in
    let uses = subst (λ (ns : List Node). (place : ℕ) (w : LeafValue) → slice_get (map node_value ns) place ≡ Some (OfLeaf w) → named_in w ≤ c.most_uses-uses.result) c.deref.ensures.value c.most_uses-uses.ensures in
    new_room c.in_ok-basis.basis (soc_value c.args.soc.now) (limits_value c.args.limits.now) (proof_value c.args.proof.now) c.in_ok-case.case c.in_ok-leaf.leaf c.in_ok-stack.stack.items c.most_uses-uses.result
    c.in_ok-basis.ensures.basis c.in_ok-basis.ensures.chip c.in_ok-basis.ensures.limits c.in_ok-basis.ensures.proof c.requires.proof c.in_ok-case.ensures.room c.in_ok-case.ensures.root
    (c.in_ok-case.ensures.modules ∙ long) c.in_ok-case.ensures.wires c.in_ok-case.ensures.most c.in_ok-leaf.ensures.space c.in_ok-leaf.ensures.places c.if-uses-gt-USES_MOST.false uses
    (omega (arith, stack, c.len-2.ensures, length-map c.args.proof.now.nodes.items node_value))
