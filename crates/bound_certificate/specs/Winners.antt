-- The best candidate so far, with its value.
use Rattle.std.specs.Prelude.{◌≡◌, ℕ, Option, Some, None, List, option_map, IfSome, nat_lt, if◌then◌else◌}
use Rattle.std.proofs.Common.{Vec, Global}
use Rattle.soc_model.specs.declared.TestId.{TestId}
use Rattle.soc_model.specs.Chips.{SocValue}
use Rattle.plan_model.specs.declared.Why.{Why}
use Rattle.plan_model.specs.Views.{why_value}
use Rattle.plan_model.specs.Plans.{LimitsValue, WhyValue, OfArea}
use Rattle.plan_model.specs.Rules.{IsBound}
use Rattle.plan_model.specs.Certificates.{certificate_value, KeepsList}

-- the best after one more candidate; among equals the earlier one stays
abbrev pub considered : Option (ℕ × Why) → ℕ → Why → Option (ℕ × Why)
considered None shown why = Some (shown, why)
considered (Some best) shown why = if nat_lt best.0 shown then Some (shown, why) else Some best

-- the candidate without its value
abbrev pub seen : Option (ℕ × Why) → Option WhyValue
seen best = option_map (λ (b : ℕ × Why). why_value b.1) best

-- the number beside it is its value and a bound, and it keeps its list rule
abbrev pub HasValue : SocValue → LimitsValue → Option (ℕ × Why) → Type 0
HasValue soc limits best = IfSome best (λ (b : ℕ × Why). (b.0 ≡ certificate_value soc limits (why_value b.1)) × IsBound soc limits b.0
    × KeepsList soc limits b.0 (why_value b.1))

-- the tests of a list, where there is one
abbrev pub names_of : Option (Vec TestId Global) → Option (List TestId)
names_of chain = option_map (λ (v : Vec TestId Global). v.items) chain

-- what is found, or Area with 0
abbrev pub IsClaimed : Option (ℕ × Why) → ℕ × Why → Type 0
IsClaimed None r = (r.0 ≡ 0) × (why_value r.1 ≡ OfArea)
IsClaimed (Some best) r = r ≡ best
