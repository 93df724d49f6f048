use Rattle.std.proofs.Common.{◌++◌, ◌∙◌, ap}
use Rattle.picture.specs.Scale.{mark_number}
use Rattle.picture.proofs.Joining.{mark_more}
use Rattle.picture.proofs.scale.push_mark_numbers.Goals as goal

pub loop-place-preserved : goal.loop-place-preserved
loop-place-preserved c =
    mark_more (mark_number c.args.cycles c.args.bottom) c.args.step c.loop-place.place c.args.text.now.items c.loop-place.text.items c.push_mark_number.new.text.items c.loop-place.invariant (c.in_ok-push_mark_number.ensures ∙ ap (λ n. c.loop-place.text.items ++ mark_number c.args.cycles c.args.bottom n) c.mark_at.ensures)
