use Rattle.std.proofs.Common.{◌∙◌, ◌++◌, ◌∷◌, [], ℕ, List, get_or, sym, ap}
use Rattle.std.proofs.lemmas.List.{take_more}
use Rattle.schedule_search.proofs.lists.copy_to.Goals as goal

pub loop-item-preserved : goal.loop-item-preserved
loop-item-preserved c =
    let i : ℕ = c.loop-item.item-index in
    let inv = c.loop-item.invariant in
    record {
      items = c.push_reserved.ensures.items ∙ ap (λ (l : List ℕ). l ++ get_or c.args.from.now i 0 ∷ []) inv.items ∙ sym (take_more c.args.from.now i 0 c.loop-item-test.true);
      room = c.push_reserved.ensures.capacity ∙ inv.room;
    }
