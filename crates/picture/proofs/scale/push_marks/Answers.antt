use Rattle.std.proofs.Common.{◌++◌, ◌∙◌, ap}
use Rattle.picture.specs.Scale.{mark_line}
use Rattle.picture.proofs.Joining.{mark_more}
use Rattle.picture.proofs.scale.push_marks.Goals as goal

pub loop-place-preserved : goal.loop-place-preserved
loop-place-preserved c =
    mark_more (mark_line c.args.cycles c.args.bottom) c.args.step c.loop-place.place c.args.text.now.items c.loop-place.text.items c.push_mark.new.text.items c.loop-place.invariant (c.in_ok-push_mark.ensures ∙ ap (λ n. c.loop-place.text.items ++ mark_line c.args.cycles c.args.bottom n) c.mark_at.ensures)
