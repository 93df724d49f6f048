use Rattle.plan_model.proofs.CertificatesAreBounds.{accepted_bounds, elementary_bounds}
use Rattle.plan_model.proofs.laws.certificates_are_bounds.Goals as goal

pub returns : goal.returns
returns c = record { accepted = accepted_bounds; elementary = elementary_bounds }
