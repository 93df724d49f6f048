use Rattle.std.proofs.Common.{◌≡◌, map}
use Rattle.std.specs.List.{range_with_len}
use Rattle.sample_maker.specs.Samples.{chain_length}
use Rattle.sample_maker.proofs.modules.make_chains.Given as goal

abbrev pub invariant-loop-chain : goal.invariant-loop-chain
invariant-loop-chain l = l.chains.items ≡ map (chain_length l.seed l.number) (range_with_len 0 l.chain)
