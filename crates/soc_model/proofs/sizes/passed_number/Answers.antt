use Rattle.std.proofs.Common.{◌<◌, sym, subst, arith}
use Rattle.soc_model.specs.declared.Which.{Which}
use Rattle.soc_model.specs.declared.Which.TheVariants.{Tests, Chains}
use Rattle.soc_model.specs.Sizes.{rank_of}
use Rattle.soc_model.proofs.sizes.passed_number.Goals as goal

pub total_work-requires-clause-tests : goal.total_work-requires-clause-tests
total_work-requires-clause-tests c = c.requires.earlier Tests (subst (λ (w : Which). 1 < rank_of w) (sym c.in-Work.is) (omega arith))

pub total_work-requires-clause-chains : goal.total_work-requires-clause-chains
total_work-requires-clause-chains c = c.requires.earlier Chains (subst (λ (w : Which). 2 < rank_of w) (sym c.in-Work.is) (omega arith))
