-- How the first live test that passes the limit on power is sought: test by test, up to the first with such a power.
use Rattle.std.specs.Prelude.{ℕ, List, [], ◌∷◌, Option, None, option_map, find, nat_lt}
use Rattle.soc_model.specs.declared.Test.{Test}
use Rattle.soc_model.specs.declared.TestId.{TestId}
use Rattle.soc_model.specs.Chips.{ModuleValue, LiveTest, id_of}
use Rattle.plan_model.specs.Plans.{ProfileValue}
use Rattle.limits_text.specs.Meaning.{or_first, powers_of}

-- a test of the module at a place
abbrev pub live_at : ℕ → ModuleValue → Test → LiveTest
live_at place m t = record { place = place; core = m; test = t }

-- the test, with its first power above the limit
abbrev pub passing : List ProfileValue → (most : ℕ) → LiveTest → Option (TestId × ℕ)
passing profiles most l = option_map (λ (power : ℕ). (id_of l, power)) (find (nat_lt most) (powers_of profiles l))

-- the first of some tests that has one
abbrev pub first_passing : List ProfileValue → (most : ℕ) → List LiveTest → Option (TestId × ℕ)
first_passing profiles most [] = None
first_passing profiles most (l ∷ tests) = or_first (passing profiles most l) (first_passing profiles most tests)
