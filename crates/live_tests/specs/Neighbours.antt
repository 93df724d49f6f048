-- The tests that come after a test by precedences, and those before it. Tests go by their places.
use Rattle.std.specs.Prelude.{ℕ, List, [], ◌∷◌, nat_eq, if◌then◌else◌}
use Rattle.live_tests.specs.declared.neighbours.Neighbours.{Neighbours}

-- the tests of such a list
abbrev pub tests_of : Neighbours → List ℕ
tests_of n = n.tests.items

-- of the pairs that have one side at a test, the other sides
abbrev pub other_sides : (side other : ℕ × ℕ → ℕ) → ℕ → List (ℕ × ℕ) → List ℕ
other_sides side other i [] = []
other_sides side other i (e ∷ pairs) =
    if nat_eq i (side e) then other e ∷ other_sides side other i pairs else other_sides side other i pairs

-- the tests that pairs of an earlier and a later test have after a test
abbrev pub after : ℕ → List (ℕ × ℕ) → List ℕ
after i pairs = other_sides (λ (e : ℕ × ℕ). e.0) (λ (e : ℕ × ℕ). e.1) i pairs

-- the tests that they have before a test
abbrev pub before : ℕ → List (ℕ × ℕ) → List ℕ
before i pairs = other_sides (λ (e : ℕ × ℕ). e.1) (λ (e : ℕ × ℕ). e.0) i pairs
