use Rattle.std.proofs.Common.{refl, sym, ap, ◌∙◌, take}
use Rattle.leaf_bounds.proofs.Takings.{restored}
use Rattle.leaf_bounds.proofs.ranks.undo_ranks.Goals as goal

pub returns : goal.returns
returns c = λ before n places space a.
    let back = c.undo_takings.ensures before n a in
    restored _ back.after_it space back.long (c.truncate.ensures.items ∙ ap (λ k. take k c.undo_takings.new.ranks.may.items) (sym places)) refl refl c.truncate.ensures.capacity refl
