use Rattle.std.proofs.Common.{◌∙◌, sym}
use Rattle.bound_prover.proofs.EqualLists.{equal_items, equal_pair}
use Rattle.bound_prover.proofs.comparing.equal_pairs.Goals as goal

pub returns : goal.returns
returns c = λ yes. equal_items equal_pair c.args.one.now c.args.other.now (sym c.eq.ensures ∙ yes)
