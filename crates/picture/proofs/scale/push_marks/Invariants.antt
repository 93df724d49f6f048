use Rattle.std.proofs.Common.{◌≡◌, ◌*◌, ◌++◌, map}
use Rattle.std.specs.List.{flat_map, range_with_len}
use Rattle.picture.specs.Scale.{mark_line}
use Rattle.picture.proofs.scale.push_marks.Given as goal

abbrev pub invariant-loop-place : goal.invariant-loop-place
invariant-loop-place l = l.text.items ≡ l.initial.text.items ++ flat_map (mark_line l.cycles l.bottom) (map (λ k. k * l.step) (range_with_len 0 l.place))
