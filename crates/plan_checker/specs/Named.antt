-- Live tests by their names.
use Rattle.std.specs.Prelude.{◌≡◌, ⊤, List, map}
use Rattle.std.specs.List.{flat_map}
use Rattle.indexmap.specs.IndexSet.{keys}
use Rattle.soc_model.specs.declared.TestId.{TestId}
use Rattle.live_tests.specs.declared.placed.PlacedTest.{PlacedTest}
use Rattle.live_tests.specs.Names.{places_of}
use Rattle.plan_checker.specs.declared.named.TestNames.{TestNames}
use Rattle.plan_checker.specs.declared.named.TestNames.TheVariants as names

-- the names of placed tests, in their order
abbrev pub names_of : List PlacedTest → List TestId
names_of placed = map (λ (j : PlacedTest). j.id) placed

-- the names that are found, each at its place
abbrev pub ids_of : TestNames → List TestId
ids_of (names.Listed set) = keys set.now
ids_of (names.Resolved resolved) = resolved.now.tests

-- what stands there by place are these precedences
abbrev pub HasPairs : List (TestId × TestId) → TestNames → Type 0
HasPairs before (names.Listed set) = ⊤
HasPairs before (names.Resolved resolved) = resolved.now.precedences.items ≡ flat_map (places_of resolved.now.tests) before

-- these names are found, and these precedences of them
pub record FindsTests (before : List (TestId × TestId)) (ids : List TestId) (names : TestNames) : Type 0 where
  pub named : ids_of names ≡ ids
  pub pairs : HasPairs before names
