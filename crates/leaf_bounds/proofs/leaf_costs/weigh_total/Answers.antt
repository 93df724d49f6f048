use Rattle.std.proofs.Common.{◌++◌, ◌∷◌, [], sym, subst, ◌∙◌, arith}
use Rattle.std.proofs.lemmas.List.{get_or_default}
use Rattle.leaf_bounds.specs.Bases.{lists_of}
use Rattle.leaf_bounds.specs.LeafCosts.{IsMade}
use Rattle.leaf_bounds.proofs.LeafSums.{made_idle}
use Rattle.common_lemmas.proofs.Lists.{some_item}
use Rattle.leaf_bounds.proofs.leaf_costs.weigh_total.Goals as goal

pub returns-then-weight-eq0-clause-made : goal.returns-then-weight-eq0-clause-made
returns-then-weight-eq0-clause-made c = λ os made.
    let list = some_item (lists_of c.args.basis.now) c.args.list c.requires.list in
    let zero =
    get_or_default c.args.room.now.totals.items c.args.list 0 c.index-weight.result.now (omega (arith, c.requires.list, c.requires.long)) ∙ sym c.index-weight.ensures ∙ c.if-weight-eq0.true in
    subst (λ y. IsMade c.args.basis.now (os ++ (c.args.list, y) ∷ []) c.args.room.now) (sym zero) (made_idle c.args.list list.1 made)
