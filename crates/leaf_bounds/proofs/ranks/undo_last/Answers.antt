use Rattle.std.proofs.Common.{[], ◌∷◌, ◌++◌, sym, ap, ◌∙◌}
use Rattle.leaf_bounds.proofs.Takings.{after_popped}
use Rattle.leaf_bounds.proofs.ranks.undo_last.Goals as goal

pub returns-in-Some-clause-after : goal.returns-in-Some-clause-after
returns-in-Some-clause-after c = λ before after more.
    after_popped c.put_back.new.ranks c.in-Some.at after more
    (c.in-Some.ensures.items ∙ ap (λ t. t ++ c.in-Some.at ∷ []) (sym c.put_back.ensures.trail))
    c.put_back.ensures.may c.put_back.ensures.most c.put_back.ensures.room (c.put_back.ensures.trail_room ∙ c.in-Some.ensures.capacity)
