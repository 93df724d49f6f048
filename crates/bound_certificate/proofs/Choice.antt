-- The choice between the winner and the forced list.
use Rattle.std.proofs.Common.{◌≡◌, ℕ, ◌≤◌, ◌<◌, Option, Some, None, List, [], refl, sym, ap, ◌∙◌, arith}
use Rattle.std.proofs.lemmas.Bool.{lt-ltb, le-ltb, le-leb, lt-leb}
use Rattle.soc_model.specs.declared.TestId.{TestId}
use Rattle.plan_model.specs.declared.Why.{Why}
use Rattle.soc_model.specs.Chips.{SocValue}
use Rattle.plan_model.specs.Plans.{LimitsValue, WhyValue, OfArea, OfForced, BoundValue}
use Rattle.plan_model.specs.Rules.{IsBound}
use Rattle.plan_model.specs.Certificates.{certificate_value, IsAccepted, IsForcedItem}
use Rattle.plan_model.specs.Views.{why_value}
use Rattle.bound_certificate.proofs.Breached.{up_to-keeps}
use Rattle.bound_certificate.specs.Best.{claimed_by, winning, IsForcedPart, IsBestWith, forced_or, by_need}
use Rattle.bound_certificate.specs.Winners.{seen, HasValue, IsClaimed}

abbrev pub bound_of : ℕ → WhyValue → BoundValue
bound_of n why = record { cycles = n; why = why }

module _ (soc : SocValue) (limits : LimitsValue) where
  pub claimed_is : (best : Option (ℕ × Why)) (w : Option WhyValue) (r : ℕ × Why) → seen best ≡ w → HasValue soc limits best → IsClaimed best r → claimed_by (certificate_value soc limits) w ≡ bound_of r.0 (why_value r.1)
  claimed_is None w r is has claimed =
      ap (claimed_by (certificate_value soc limits)) (sym is) ∙ ap (λ n. bound_of n OfArea) (sym claimed.0) ∙ ap (bound_of r.0) (sym claimed.1)
  claimed_is (Some b) w r is has claimed =
      ap (claimed_by (certificate_value soc limits)) (sym is) ∙ ap (λ n. bound_of n (why_value b.1)) (sym has.0) ∙ ap (λ (x : ℕ × Why). bound_of x.0 (why_value x.1)) (sym claimed)

  pub takes_forced : (cycles : ℕ) (chain : Option (List TestId)) (n : ℕ) (why : WhyValue) (ms : List ℕ) → winning soc limits chain ≡ bound_of n why → n < cycles → IsForcedPart soc limits cycles ms → cycles ≤ certificate_value soc limits (OfForced ms) →
      IsBestWith soc limits cycles chain (bound_of cycles (OfForced ms))
  takes_forced cycles chain n why ms is less part enough = record {
    forced = ms;
    part = λ h. part;
    is = sym (ap (forced_or soc limits cycles ms) is ∙ rw (lt-ltb n cycles less, le-leb cycles (certificate_value soc limits (OfForced ms)) enough) refl);
  }

  pub keeps_winner : (cycles : ℕ) (chain : Option (List TestId)) (n : ℕ) (why : WhyValue) (ms : List ℕ) → winning soc limits chain ≡ bound_of n why → n < cycles → IsForcedPart soc limits cycles ms → certificate_value soc limits (OfForced ms) < cycles →
      IsBestWith soc limits cycles chain (bound_of n why)
  keeps_winner cycles chain n why ms is less part few = record {
    forced = ms;
    part = λ h. part;
    is = sym (ap (forced_or soc limits cycles ms) is ∙ rw (lt-ltb n cycles less, lt-leb cycles (certificate_value soc limits (OfForced ms)) few) refl);
  }

  pub winner_meets : (cycles : ℕ) (chain : Option (List TestId)) (n : ℕ) (why : WhyValue) → winning soc limits chain ≡ bound_of n why → cycles ≤ n → IsBestWith soc limits cycles chain (bound_of n why)
  winner_meets cycles chain n why is enough = record {
    forced = [];
    part = λ less. let same : (winning soc limits chain).cycles ≡ n = ap (λ (b : BoundValue). b.cycles) is in absurd (omega arith);
    is = sym (ap (forced_or soc limits cycles []) is ∙ rw (le-ltb n cycles enough) refl);
  }

  -- the winner is at most the cycles of a good plan
  pub claimed-le : (cycles : ℕ) (best : Option (ℕ × Why)) (r : ℕ × Why) → HasValue soc limits best → IsClaimed best r → ((b : ℕ) → IsBound soc limits b → b ≤ cycles) → r.0 ≤ cycles
  claimed-le cycles None r has claimed good = omega (arith, claimed.0)
  claimed-le cycles (Some b) r has claimed good =
      let same : r.0 ≡ b.0 = ap (λ (x : ℕ × Why). x.0) claimed in
      omega (arith, good b.0 has.1)

  -- the winner is accepted, and so is the forced list that meets the cycles
  pub claimed_accepted : (best : Option (ℕ × Why)) (r : ℕ × Why) → HasValue soc limits best → IsClaimed best r → IsAccepted soc limits (bound_of r.0 (why_value r.1))
  claimed_accepted None r has claimed = rw claimed.1 (record { keeps = tt; enough = omega (arith, claimed.0) })
  claimed_accepted (Some b) r has claimed = rw claimed (record { keeps = has.2; enough = omega (arith, has.0) })

  pub forced_accepted : (cycles : ℕ) (ms : List ℕ) → IsForcedPart soc limits cycles ms → cycles ≤ certificate_value soc limits (OfForced ms) → IsAccepted soc limits (bound_of cycles (OfForced ms))
  forced_accepted cycles ms part enough =
      let keeps = up_to-keeps (IsForcedItem soc limits.wires cycles) (by_need soc limits.wires cycles) part.0 part.1 in
      record { keeps = rw part.2 keeps; enough = enough }
