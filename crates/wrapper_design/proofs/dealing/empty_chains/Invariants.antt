use Rattle.std.proofs.Common.{◌≡◌, map, replicate, []}
use Rattle.wrapper_design.proofs.Chains.{scans_of}
use Rattle.wrapper_design.proofs.dealing.empty_chains.Given as goal

abbrev pub invariant-loop-place : goal.invariant-loop-place
invariant-loop-place l = map scans_of l.chains.items ≡ replicate l._place []
