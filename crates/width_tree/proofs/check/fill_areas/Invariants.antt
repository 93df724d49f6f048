use Rattle.std.proofs.Common.{◌≡◌, ◌<◌, ℕ, slice_index}
use Rattle.width_tree.specs.Cases.{interval_at}
use Rattle.width_tree.specs.Findings.{area_by}
use Rattle.width_tree.proofs.check.fill_areas.Given as goal

abbrev pub invariant-loop-place : goal.invariant-loop-place
invariant-loop-place l = (p : ℕ) → p < l.place → slice_index l.areas p ≡ area_by l.table.times.now (interval_at l.intervals p) p
