use Rattle.std.proofs.Common.{rules, ◌≡◌, ◌≤◌, true, false, length, sym, subst, arith}
use Rattle.plan_model.specs.Proofs.{weights_value}
use Rattle.leaf_bounds.specs.Cases.{IsEmpty}
use Rattle.leaf_bounds.specs.Bases.{lists_of}
use Rattle.leaf_bounds.proofs.LeafAnswers.{found, keeps_rule}
use Rattle.leaf_bounds.proofs.leaf.check_leaf.Goals as goal

pub returns-clause-answer : goal.returns-clause-answer
returns-clause-answer c =
    let long : c.len.result ≡ length c.args.weights.now.ranks.items = search rules in
    let few : length c.args.weights.now.ranks.items ≤ length c.args.case.now.widths.intervals.items = omega (arith, long, c.if-known-len.false, c.known_ranks-known.ensures) in
    let are : c.are_named.result ≡ true = cc in
    let some : c.is_empty.result ≡ false = cc in
    let named = rw (c.known_ranks-known.ensures, c.deref.ensures.value, c.deref-2.ensures.value) at (c.are_named.ensures.yes are) in
    λ k of. found c.args.basis.now k (weights_value c.args.weights.now) c.weighed_leaf.result (keeps_rule (lists_of c.args.basis.now) (weights_value c.args.weights.now) of few named)
    (subst (λ w. IsEmpty w k → ⊥) c.requires.of.wires (c.is_empty.ensures.no some k (sym of.intervals))) (c.weighed_leaf.ensures.answer k of) c.args.room.now.pack.work
