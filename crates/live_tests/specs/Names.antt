-- The names of live tests, and precedences by the places of their tests.
use Rattle.std.specs.Prelude.{◌≡◌, ℕ, Option, None, Some, List, [], ◌∷◌, map, position, slice_get}
use Rattle.std.specs.List.{filter, flat_map}
use Rattle.soc_model.specs.declared.Test.{Test}
use Rattle.soc_model.specs.declared.TestId.{TestId}
use Rattle.soc_model.specs.Chips.{SocValue, ModuleValue, is_live, same_test}
use Rattle.plan_model.specs.Plans.{LimitsValue}
use Rattle.plan_model.specs.Rules.{live_ids}

-- no item stands at two places
abbrev pub AllDiffer : {X : Type 0} → List X → Type 0
AllDiffer {X} xs = (p q : ℕ) (x : X) → slice_get xs p ≡ Some x → slice_get xs q ≡ Some x → p ≡ q

-- the name of a test of a module
abbrev pub name_in : ModuleValue → Test → TestId
name_in m t = record { «module» = m.number; test = t.number }

-- the names of the live tests of a module
abbrev pub names_in : ModuleValue → List TestId
names_in m = map (name_in m) (filter is_live m.tests)

-- a pair of places, where there are both
abbrev pub both_places : Option ℕ → Option ℕ → List (ℕ × ℕ)
both_places (Some a) (Some b) = (a, b) ∷ []
both_places (Some a) None = []
both_places None b = []

-- a precedence by the places of its tests, where both are among these
abbrev pub places_of : List TestId → TestId × TestId → List (ℕ × ℕ)
places_of ids p = both_places (position (same_test p.0) ids) (position (same_test p.1) ids)

-- the precedences of live tests, by their places
abbrev pub precedences : SocValue → LimitsValue → List (ℕ × ℕ)
precedences soc limits = flat_map (places_of (live_ids soc)) limits.before
