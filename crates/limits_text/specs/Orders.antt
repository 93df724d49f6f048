-- Taking tests away one by one: what the search for a loop keeps.
use Rattle.std.specs.Prelude.{◌≡◌, ℕ, ◌+◌, ◌-◌, ◌<◌, ◌&&◌, List, [], ◌∷◌, Bool, true, false, not, Some, min, length, take, slice_get, slice_index, slice_index_or, nat_eq, if◌then◌else◌}
use Rattle.std.specs.List.{list_any, Contains}

abbrev pub is_in : List ℕ → ℕ → Bool
is_in xs x = list_any (nat_eq x) xs

-- a pair has test `j` after a test that is not gone
abbrev pub holds_back : List ℕ → ℕ → ℕ × ℕ → Bool
holds_back gone j e = nat_eq j e.1 && not (is_in gone e.0)

abbrev pub one_if : Bool → ℕ
one_if true = 1
one_if false = 0

-- how many pairs hold test `j` back
abbrev pub held : List ℕ → List (ℕ × ℕ) → ℕ → ℕ
held gone [] j = 0
held gone (e ∷ pairs) j = one_if (holds_back gone j e) + held gone pairs j

-- how often test `j` stands in a list
abbrev pub copies : List ℕ → ℕ → ℕ
copies [] j = 0
copies (x ∷ xs) j = one_if (nat_eq j x) + copies xs j

-- the numbers of a list at its places are these
abbrev pub Counts : List ℕ → (ℕ → ℕ) → Type 0
Counts counts f = (j : ℕ) → j < length counts → slice_index counts j ≡ f j

-- Of the tests below `upto` those are taken that nothing holds back, each once.
pub record IsKept (counts : List ℕ) (upto : ℕ) (order : List ℕ) : Type 0 where
  pub zero_taken : (j : ℕ) → j < upto → slice_index counts j ≡ 0 → is_in order j ≡ true
  pub within : (p j : ℕ) → slice_get order p ≡ Some j → j < upto
  pub taken_zero : (p j : ℕ) → slice_get order p ≡ Some j → slice_index counts j ≡ 0
  pub once : (p q j : ℕ) → slice_get order p ≡ Some j → slice_get order q ≡ Some j → p ≡ q

-- the list goes on
abbrev pub GoesOn : List ℕ → List ℕ → Type 0
GoesOn old new = take (length old) new ≡ old

-- each test of the order stands after all that precede it
abbrev pub IsOrdered : List (ℕ × ℕ) → List ℕ → Type 0
IsOrdered pairs order = (p i j : ℕ) → slice_get order p ≡ Some j → Contains pairs (i, j) → is_in (take p order) i ≡ true

-- all tests that can be taken away, in an order in which they can be
pub record IsTaking (pairs : List (ℕ × ℕ)) (count : ℕ) (order : List ℕ) : Type 0 where
  pub ordered : IsOrdered pairs order
  pub within : (p j : ℕ) → slice_get order p ≡ Some j → j < count
  pub stuck : (j : ℕ) → j < count → is_in order j ≡ false → (i : ℕ) × Contains pairs (i, j) × (is_in order i ≡ false)

-- the least test before `j` that is not gone, or `none`
abbrev pub least_before : List Bool → ℕ → List (ℕ × ℕ) → ℕ → ℕ
least_before gone none [] j = none
least_before gone none (e ∷ pairs) j =
    if nat_eq j e.1 && not (slice_index_or gone e.0 false) then min e.0 (least_before gone none pairs j) else least_before gone none pairs j

-- the marks are of the tests of an order
abbrev pub AreMarked : List Bool → List ℕ → Type 0
AreMarked gone order = (k : ℕ) → k < length gone → slice_index_or gone k false ≡ is_in order k

-- A walk from `start`, after each test the one that `next` has for it; its last test stands at place `meets` too, and
-- all others differ.
pub record ComesAgain (next : List ℕ) (start : ℕ) (walk : List ℕ) (meets : ℕ) : Type 0 where
  pub last : ℕ
  pub long : length walk ≡ last + 1
  pub before_last : meets < last
  pub again : slice_get walk meets ≡ slice_get walk last
  pub begins : slice_get walk 0 ≡ Some start
  pub goes : (k x y : ℕ) → slice_get walk k ≡ Some x → slice_get walk (k + 1) ≡ Some y → y ≡ slice_index next x
  pub differ : (p q x : ℕ) → p < last → q < last → slice_get walk p ≡ Some x → slice_get walk q ≡ Some x → p ≡ q

-- the walk from its end
abbrev pub IsBack : List ℕ → List ℕ → Type 0
IsBack walk circle = (k : ℕ) → k < length circle → slice_get circle k ≡ slice_get walk (length walk - 1 - k)
