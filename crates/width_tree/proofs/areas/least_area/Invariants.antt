use Rattle.std.proofs.Common.{◌≡◌, ◌-◌, ◌*◌, slice_index}
use Rattle.width_tree.specs.Tables.{place_of_time}
use Rattle.width_tree.specs.Cases.{least_over}
use Rattle.width_tree.proofs.areas.least_area.Given as goal

abbrev pub invariant-loop-width : goal.invariant-loop-width
invariant-loop-width l = l.least ≡ least_over (λ v. v * slice_index l.times (place_of_time l.place v)) l.low (l.width - 1 - l.low)
