-- Which test held another one until it started, and by what.
use Rattle.std.specs.Prelude.{ℕ, ◌+◌, ◌-◌, Bool, false, ◌&&◌, ◌||◌, Option, None, Some, option_map, List, [], ◌∷◌, find, nat_eq, nat_lt}
use Rattle.std.specs.List.{list_any}
use Rattle.soc_model.specs.declared.TestId.{TestId}
use Rattle.soc_model.specs.Chips.{ModuleValue, SocValue, parent_place, same_test}
use Rattle.plan_model.specs.Plans.{LimitsValue, power_of_id}
use Rattle.live_tests.specs.declared.placed.PlacedTest.{PlacedTest}
use Rattle.report.specs.declared.holders.Hold.{Hold}
use Rattle.report.specs.declared.holders.Hold.TheVariants as hold

-- both are over the wires, of one bus
abbrev pub share_bus : Option ℕ → Option ℕ → Bool
share_bus None b = false
share_bus (Some a) None = false
share_bus (Some a) (Some b) = nat_eq a b

-- a place, where there is one, is this one
abbrev pub is_place : ℕ → Option ℕ → Bool
is_place p None = false
is_place p (Some q) = nat_eq q p

-- one of the modules at these places is the parent of the other
abbrev pub are_parent_and_child : List ModuleValue → (p q : ℕ) → Bool
are_parent_and_child modules p q = is_place p (parent_place modules q) || is_place q (parent_place modules p)

-- the first test is set directly before the second
abbrev pub is_before : List (TestId × TestId) → (first second : TestId) → Bool
is_before before first second = list_any (λ (p : TestId × TestId). same_test p.0 first && same_test p.1 second) before

-- a power passes the limit
abbrev pub passes_limit : Option ℕ → ℕ → Bool
passes_limit None power = false
passes_limit (Some most) power = nat_lt most power

-- what a test draws at its first cycle
abbrev pub first_power : LimitsValue → PlacedTest → ℕ
first_power limits t = power_of_id limits t.id t.power 0

-- the power at the cycle before the test and its first power together are more than the limit
abbrev pub is_too_much : LimitsValue → (load : ℕ → ℕ) → PlacedTest → Bool
is_too_much limits load t = passes_limit limits.power (load (t.start - 1) + first_power limits t)

-- what keeps the test `t` from starting while the test `u` is active
abbrev pub keeps_out : SocValue → LimitsValue → (load : ℕ → ℕ) → Hold → (t u : PlacedTest) → Bool
keeps_out soc limits load hold.Bus t u = share_bus t.bus u.bus
keeps_out soc limits load hold.Module t u = nat_eq t.place u.place
keeps_out soc limits load hold.Parent t u = are_parent_and_child soc.modules t.place u.place
keeps_out soc limits load hold.Before t u = is_before limits.before u.id t.id
keeps_out soc limits load hold.Power t u = is_too_much limits load t

-- it ended as `t` started, and kept it out by this
abbrev pub is_holder : SocValue → LimitsValue → (load : ℕ → ℕ) → Hold → (t u : PlacedTest) → Bool
is_holder soc limits load kind t u = nat_eq u.end t.start && keeps_out soc limits load kind t u

-- the first test that did
unfoldable pub holder : SocValue → LimitsValue → (load : ℕ → ℕ) → List PlacedTest → Hold → (t : PlacedTest) → Option PlacedTest
holder soc limits load tests kind t = find (is_holder soc limits load kind t) tests

-- in this order
abbrev pub holds : List Hold
holds = hold.Bus ∷ hold.Module ∷ hold.Parent ∷ hold.Before ∷ hold.Power ∷ []

abbrev pub or_else : Option (PlacedTest × Hold) → Option (PlacedTest × Hold) → Option (PlacedTest × Hold)
or_else None b = b
or_else (Some a) b = Some a

-- the first of these by which a test is held, with the holder
abbrev pub first_held : SocValue → LimitsValue → (load : ℕ → ℕ) → List PlacedTest → PlacedTest → List Hold → Option (PlacedTest × Hold)
first_held soc limits load tests t [] = None
first_held soc limits load tests t (kind ∷ kinds) =
    or_else (option_map (λ (u : PlacedTest). (u, kind)) (holder soc limits load tests kind t)) (first_held soc limits load tests t kinds)

-- what held a test, and by what
unfoldable pub held : SocValue → LimitsValue → (load : ℕ → ℕ) → List PlacedTest → (t : PlacedTest) → Option (PlacedTest × Hold)
held soc limits load tests t = first_held soc limits load tests t holds
