-- Profiles that are found by the names of their tests.
use Rattle.std.specs.Prelude.{◌≡◌, ℕ, List, position}
use Rattle.std.specs.Map.{lookup}
use Rattle.soc_model.specs.declared.TestId.{TestId}
use Rattle.soc_model.specs.Chips.{same_test}
use Rattle.plan_model.specs.declared.Profile.{Profile}

-- by its test's name a profile is found at the place of the first one of that name
abbrev pub FindProfiles : List (TestId × ℕ) → List Profile → Type 0
FindProfiles places profiles = (id : TestId) → lookup (same_test id) places ≡ position (λ (p : Profile). same_test p.test id) profiles
