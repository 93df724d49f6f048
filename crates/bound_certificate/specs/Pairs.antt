-- Pairs of tests by their names: the neighbours in a list, each with whether a precedence sets the second behind the first.
use Rattle.std.specs.Prelude.{◌≡◌, ℕ, ◌+◌, ◌<◌, ◌&&◌, Bool, Some, List, Option, option_map, slice_get, if◌then◌else◌}
use Rattle.std.specs.List.{list_any}
use Rattle.indexmap.specs.IndexMap.{IndexMap, get}
use Rattle.soc_model.specs.declared.TestId.{TestId}
use Rattle.soc_model.specs.declared.TheConstants.{TESTS_MOST}
use Rattle.soc_model.specs.Chips.{same_test}

-- both names are the same
abbrev pub same_pair : TestId × TestId → TestId × TestId → Bool
same_pair p q = same_test p.0 q.0 && same_test p.1 q.1

-- the pair is among these
abbrev pub is_among : List (TestId × TestId) → TestId × TestId → Bool
is_among pairs q = list_any (λ p. same_pair p q) pairs

-- what is noted of a pair
abbrev pub noted : {S : Type 0} → IndexMap (TestId × TestId) Bool S → TestId × TestId → Option Bool
noted pairs q = get same_pair pairs q

-- what was noted of one pair is replaced
abbrev pub replaced : TestId × TestId → Bool → TestId × TestId → Option Bool → Option Bool
replaced p b q old = if same_pair p q then option_map (λ _. b) old else old

-- one pair is noted, the others are as they were
abbrev pub with_note : TestId × TestId → Bool → TestId × TestId → Option Bool → Option Bool
with_note p b q old = if same_pair p q then Some b else old

-- two tests stand beside each other at the front of a list
pub record AreNeighbours (tests : List TestId) (a b : TestId) : Type 0 where
  pub place : ℕ
  pub near : place < TESTS_MOST
  pub first : slice_get tests place ≡ Some a
  pub second : slice_get tests (place + 1) ≡ Some b

-- of neighbours at the front it is noted whether a precedence sets them behind each other
abbrev pub AreStated : {S : Type 0} → (before : List (TestId × TestId)) → (tests : List TestId) → IndexMap (TestId × TestId) Bool S → Type 0
AreStated before tests pairs = (a b : TestId) → AreNeighbours tests a b → noted pairs (a, b) ≡ Some (is_among before (a, b))
