use Rattle.std.proofs.Common.{◌∙◌, ap}
use Rattle.proof_facts.specs.Packed.{rising}
use Rattle.proof_facts.proofs.FrontSums.{sorted_is}
use Rattle.proof_facts.proofs.lengths.sorted_lengths.Goals as goal

pub returns : goal.returns
returns c = sorted_is c.in_ok-sorted.sorted.items c.sort_unstable.new.self.items c.sort_unstable.ensures.permutation c.sort_unstable.ensures.sorted ∙ ap rising c.in_ok-sorted.ensures
