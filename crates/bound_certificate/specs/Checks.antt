-- What the check of a certificate answers.
use Rattle.std.specs.Prelude.{ℕ, Result, Ok, Err}
use Rattle.soc_model.specs.Chips.{SocValue}
use Rattle.plan_model.specs.Plans.{LimitsValue, WhyValue}
use Rattle.plan_model.specs.Certificates.{CertificateFault, BadListFault, LessFault, IsAccepted, IsCertificateFault}
use Rattle.bound_certificate.specs.declared.BoundFault.{BoundFault}
use Rattle.bound_certificate.specs.declared.BoundFault.TheVariants.{BadList, Less}

-- a fault, as the definitions of certificates see it
abbrev pub certificate_fault : BoundFault → CertificateFault
certificate_fault (BadList place) = BadListFault place
certificate_fault (Less claimed shown) = LessFault claimed shown

-- accepted, or else the fault that the certificate has
abbrev pub IsCheck : SocValue → LimitsValue → (claim : ℕ) → WhyValue → Result (Unit {0}) BoundFault → Type 0
IsCheck soc limits claim why (Ok _) = IsAccepted soc limits (record { cycles = claim; why = why })
IsCheck soc limits claim why (Err fault) = IsCertificateFault soc limits (record { cycles = claim; why = why }) (certificate_fault fault)
