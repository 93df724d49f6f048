use Rattle.std.proofs.Common.{◌≡◌, map, take}
use Rattle.limits_text.specs.Places.{entries_in, row_of}
use Rattle.limits_text.proofs.places.rows_of.Given as goal

abbrev pub invariant-loop-place : goal.invariant-loop-place
invariant-loop-place l = map entries_in l.rows.items ≡ map (row_of l.live) (take l.place l.soc.modules.entries)
