-- From a kept list and its value to what the check answers.
use Rattle.std.proofs.Common.{◌≡◌, ℕ, ◌≤◌, ltb, Option, Some, None, is_some, option_map, Result, Ok, Err, List, refl, arith, inl, inr, nat_lt, OnOk, IfErr, IsTrue, if◌then◌else◌}
use Rattle.std.proofs.lemmas.Bool.{cases_Bool, ltb-true, ltb-false}
use Rattle.soc_model.specs.Chips.{SocValue, parent_place}
use Rattle.plan_model.specs.Plans.{LimitsValue, WhyValue, OfModule, OfPair, OfChain, OfArea, OfPower, OfForced, BoundValue}
use Rattle.plan_model.specs.Bounds.{pair_bound}
use Rattle.plan_model.specs.Rules.{IsBound, Each, IsFirstBreach}
use Rattle.plan_model.specs.Certificates.{certificate_value, KeepsList, IsListBreach, IsAccepted, IsCertificateFault, IsChainItem, IsForcedItem, has_parent, pair_bound_of, on}
use Rattle.plan_model.proofs.CertificatesAreBounds.{accepted_bounds}
use Rattle.bound_certificate.specs.declared.BoundFault.{BoundFault}
use Rattle.bound_certificate.specs.declared.BoundFault.TheVariants.{BadList, Less}
use Rattle.bound_certificate.specs.Checks.{certificate_fault, IsCheck}

pub enough_is : (soc : SocValue) (limits : LimitsValue) (claim : ℕ) (why : WhyValue) (shown : ℕ) (r : Result (Unit {0}) BoundFault) → r ≡ (if nat_lt shown claim then Err (Less claim shown) else Ok tt) →
    KeepsList soc limits claim why → shown ≡ certificate_value soc limits why → IsCheck soc limits claim why r
enough_is soc limits claim why shown r is keeps same = elim (cases_Bool (ltb shown claim)) [
  | inl less ↦ rw (is, less) (keeps, refl, same, ltb-true shown claim less)
  | inr more ↦ rw (is, more) (record { keeps = keeps; enough = omega (arith, ltb-false shown claim more, same) })
]

pub family_some : (soc : SocValue) (w place shown : ℕ) → Some shown ≡ option_map (λ parent. pair_bound soc w parent place) (parent_place soc.modules place) → IsTrue (has_parent soc place) × (shown ≡ pair_bound_of soc w place)
family_some soc w place shown is = go (parent_place soc.modules place) is where
  go : (o : Option ℕ) → Some shown ≡ option_map (λ parent. pair_bound soc w parent place) o → IsTrue (is_some o) × (shown ≡ on o (λ parent. pair_bound soc w parent place))
  go None e = absurd cc
  go (Some p) e = (refl, cc)

-- ---- what the answer says of the certificate

module _ (soc : SocValue) (limits : LimitsValue) where
  pub checked_accepts : (bound : BoundValue) (r : Result (Unit {0}) BoundFault) → IsCheck soc limits bound.cycles bound.why r → OnOk r (IsAccepted soc limits bound)
  checked_accepts bound (Ok u) check = record { keeps = check.keeps; enough = check.enough }
  checked_accepts bound (Err fault) check = tt

  pub checked_faults : (bound : BoundValue) (r : Result (Unit {0}) BoundFault) → IsCheck soc limits bound.cycles bound.why r → IfErr r (λ f. IsCertificateFault soc limits bound (certificate_fault f))
  checked_faults bound (Ok u) check = tt
  checked_faults bound (Err (BadList place)) check = check
  checked_faults bound (Err (Less claimed shown)) check = check

  pub checked_bounds : (bound : BoundValue) (r : Result (Unit {0}) BoundFault) → 1 ≤ limits.wires → IsCheck soc limits bound.cycles bound.why r → OnOk r (IsBound soc limits bound.cycles)
  checked_bounds bound (Ok u) some check = accepted_bounds soc limits bound some (record { keeps = check.keeps; enough = check.enough })
  checked_bounds bound (Err fault) some check = tt

kept-unbroken : {X : Type 0} (P : List X → X → Type 0) (xs : List X) (n : ℕ) (x : X) → Each P xs → IsFirstBreach P xs n x → ⊥
kept-unbroken P xs n x keeps first = first.breaks (keeps n x first.there)

-- a list that keeps its rule has no place that breaks it
module _ (soc : SocValue) (limits : LimitsValue) where
  keeps_or_breaks : (claim : ℕ) (why : WhyValue) (place : ℕ) → KeepsList soc limits claim why → IsListBreach soc limits claim why place → ⊥
  keeps_or_breaks claim (OfModule m) place keeps breaks = breaks.0 keeps
  keeps_or_breaks claim (OfPair m) place keeps breaks = breaks.0 keeps
  keeps_or_breaks claim (OfChain tests) place keeps breaks = kept-unbroken (IsChainItem soc limits) tests place breaks.0 keeps breaks.1
  keeps_or_breaks claim OfArea place keeps breaks = breaks
  keeps_or_breaks claim OfPower place keeps breaks = breaks
  keeps_or_breaks claim (OfForced ms) place keeps breaks = kept-unbroken (IsForcedItem soc limits.wires claim) ms place breaks.0 keeps breaks.1

  pub checked_exact : (bound : BoundValue) (r : Result (Unit {0}) BoundFault) → IsCheck soc limits bound.cycles bound.why r → IsAccepted soc limits bound → r ≡ Ok tt
  checked_exact bound (Ok u) check accepted = refl
  checked_exact bound (Err (BadList place)) check accepted = absurd (keeps_or_breaks bound.cycles bound.why place accepted.keeps check)
  checked_exact bound (Err (Less claimed shown)) check accepted = absurd (omega (arith, check.1, check.2, check.3, accepted.enough))
