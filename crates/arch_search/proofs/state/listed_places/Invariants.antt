use Rattle.std.proofs.Common.{◌≡◌, length}
use Rattle.arch_search.proofs.state.listed_places.Given as goal

abbrev pub invariant-loop-place : goal.invariant-loop-place
invariant-loop-place l = length l.places.items ≡ length l.names
