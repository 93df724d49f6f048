use Rattle.std.proofs.Common.{◌≡◌, ℕ, true, false, map, arith}
use Rattle.plan_model.specs.Proofs.{list_value}
use Rattle.leaf_bounds.proofs.LeafAnswers.{all_named, named_next}
use Rattle.leaf_bounds.proofs.leaf.are_named.Goals as goal

pub returns-then-not-is_named-clause-no : goal.returns-then-not-is_named-clause-no
returns-then-not-is_named-clause-no c =
    let off : c.is_named.result ≡ false = cc in
    let weight : ℕ = 0 in
    let none : ℕ × ℕ = (0, 0) in
    λ no all. c.is_named.ensures.no off weight (all c.loop-item.item-index none (omega (arith, c.loop-item-test.true)))

pub loop-item-preserved : goal.loop-item-preserved
loop-item-preserved c =
    let on : c.is_named.result ≡ true = cc in
    let weight : ℕ = 0 in
    named_next (map list_value c.args.lists.now) c.args.known c.args.uses.now c.loop-item.item-index (omega (arith, c.loop-item-test.true)) c.loop-item.invariant (c.is_named.ensures.yes on weight)

pub returns-clause-yes : goal.returns-clause-yes
returns-clause-yes c = λ yes. all_named (map list_value c.args.lists.now) c.args.known c.args.uses.now c.loop-item.item-index (omega (arith, c.loop-item-test.false)) c.loop-item.invariant
