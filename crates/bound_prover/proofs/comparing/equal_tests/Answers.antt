use Rattle.std.proofs.Common.{◌∙◌, sym}
use Rattle.plan_model.proofs.CertificatesAreBounds.{same_test_is}
use Rattle.bound_prover.proofs.EqualLists.{equal_items}
use Rattle.bound_prover.proofs.comparing.equal_tests.Goals as goal

pub returns : goal.returns
returns c = λ yes. equal_items same_test_is c.args.one.now c.args.other.now (sym c.eq.ensures ∙ yes)
