use Rattle.std.proofs.Common.{[], ◌∷◌, ◌++◌, sym, ap, ◌∙◌}
use Rattle.leaf_bounds.proofs.Trails.{later_popped}
use Rattle.leaf_bounds.proofs.widths.undo_last.Goals as goal

pub returns-in-Some-clause-later : goal.returns-in-Some-clause-later
returns-in-Some-clause-later c = λ before later more.
    later_popped c.undo_once.new.widths c.in-Some.change later more
    (c.in-Some.ensures.items ∙ ap (λ t. t ++ c.in-Some.change ∷ []) (sym c.undo_once.ensures.trail))
    c.undo_once.ensures.intervals c.undo_once.ensures.wires c.undo_once.ensures.most c.undo_once.ensures.room (c.undo_once.ensures.trail_room ∙ c.in-Some.ensures.capacity)
