-- The text that is printed of limits.
use Rattle.std.specs.Prelude.{ℕ, List, [], ◌∷◌, ◌++◌, Option, None, Some, codes}
use Rattle.std.specs.List.{flat_map}
use Rattle.outside.specs.Decimal.{spaced_number}
use Rattle.soc_model.specs.declared.TestId.{TestId}
use Rattle.plan_model.specs.Plans.{ProfileValue, LimitsValue}

abbrev pub test_fields : TestId → List ℕ
test_fields id = spaced_number id.«module» ++ spaced_number id.test

-- a word and a number on a line
abbrev pub number_line : List ℕ → ℕ → List ℕ
number_line word n = word ++ spaced_number n ++ 10 ∷ []

abbrev pub power_lines : Option ℕ → List ℕ
power_lines None = []
power_lines (Some power) = number_line (codes "Power") power

abbrev pub before_line : TestId × TestId → List ℕ
before_line p = codes "Before" ++ test_fields p.0 ++ test_fields p.1 ++ 10 ∷ []

abbrev pub step_fields : List (ℕ × ℕ) → List ℕ
step_fields steps = flat_map (λ (s : ℕ × ℕ). spaced_number s.0 ++ spaced_number s.1) steps

abbrev pub profile_line : ProfileValue → List ℕ
profile_line p = codes "Profile" ++ test_fields p.test ++ step_fields p.steps ++ 10 ∷ []

-- the form of a text: 2 with profiles, and 1 without
abbrev pub form_of : List ProfileValue → ℕ
form_of [] = 1
form_of (p ∷ profiles) = 2

-- one item a line: the form, the wires, the power where there is one, the budget, the precedences and the profiles
abbrev pub limits_text : LimitsValue → List ℕ
limits_text limits =
    number_line (codes "Limits") (form_of limits.profiles) ++ number_line (codes "Wires") limits.wires ++ power_lines limits.power
    ++ number_line (codes "Budget") limits.budget ++ flat_map before_line limits.before ++ flat_map profile_line limits.profiles
