-- Tests in the order of their starts, and the latest ends that one pass over them notes.
use Rattle.std.specs.Prelude.{◌≡◌, ℕ, ◌<◌, ◌≤◌, ◌&&◌, Bool, max, min, Option, Some, None, List, length, slice_get, slice_index, slice_set, nat_lt}
use Rattle.std.specs.List.Sorted.{IsNonDecreasingBy}
use Rattle.live_tests.specs.declared.placed.PlacedTest.{PlacedTest}
use Rattle.plan_checker.specs.declared.meetings.Begin.{Begin}
use Rattle.plan_checker.specs.declared.meetings.EndKey.{EndKey}
use Rattle.plan_checker.specs.declared.meetings.EndKey.TheVariants as key
use Rattle.plan_checker.specs.Clashes.{BothAt, same_slot}

-- the number by which a test is found
abbrev pub slot : List ℕ → EndKey → PlacedTest → Option ℕ
slot parents key.Bus j = j.bus
slot parents key.Place j = Some j.place
slot parents key.Parent j = Some (slice_index parents j.place)

-- whether the first test's end is noted where the second one asks
abbrev pub notes_for : List ℕ → EndKey → EndKey → PlacedTest → PlacedTest → Bool
notes_for parents noted asked a b = same_slot (slot parents noted a) (slot parents asked b)

-- every number by which a test is found is a place among the ends
pub record HasSlots (parents : List ℕ) (n : ℕ) (j : PlacedTest) : Type 0 where
  pub place : j.place < length parents
  pub bus_in : (s : ℕ) → j.bus ≡ Some s → s < n
  pub place_in : j.place < n
  pub parent_in : slice_index parents j.place < n

abbrev pub AreSlots : List ℕ → List PlacedTest → ℕ → Type 0
AreSlots parents placed n = (i : ℕ) (j : PlacedTest) → slice_get placed i ≡ Some j → HasSlots parents n j

-- ---- begins

abbrev pub begin_of : ℕ → PlacedTest → Begin
begin_of place j = record { start = j.start; place = place }

-- the begin of each test, in the order of the tests
pub record AreWritten (placed : List PlacedTest) (begins : List Begin) : Type 0 where
  pub long : length begins ≡ length placed
  pub at : (i : ℕ) (j : PlacedTest) → slice_get placed i ≡ Some j → slice_get begins i ≡ Some (begin_of i j)

-- the test that a begin is of
pub record BeginsTest (placed : List PlacedTest) (b : Begin) : Type 0 where
  pub j : PlacedTest
  pub at : slice_get placed b.place ≡ Some j
  pub start_is : b.start ≡ j.start

-- the begins of all placed tests, each once, by their starts
pub record AreBegins (placed : List PlacedTest) (begins : List Begin) : Type 0 where
  pub sorted : IsNonDecreasingBy (λ (b : Begin). b.start) begins
  pub of : (p : ℕ) (b : Begin) → slice_get begins p ≡ Some b → BeginsTest placed b
  pub all : (i : ℕ) (j : PlacedTest) → slice_get placed i ≡ Some j → (p : ℕ) × (b : Begin) × (slice_get begins p ≡ Some b) × (b.place ≡ i)
  pub once : (p q : ℕ) (a b : Begin) → slice_get begins p ≡ Some a → slice_get begins q ≡ Some b → a.place ≡ b.place → p ≡ q

-- ---- ends

abbrev pub end_in : List ℕ → Option ℕ → ℕ
end_in ends None = 0
end_in ends (Some s) = slice_index ends s

abbrev pub noted_end : List ℕ → Option ℕ → ℕ → List ℕ
noted_end ends None e = ends
noted_end ends (Some s) e = slice_set ends s (max (slice_index ends s) e)

abbrev pub is_early : PlacedTest → ℕ → Bool
is_early j noted = nat_lt j.start j.end && nat_lt j.start noted

-- ---- meetings

-- two related tests that are active at a cycle, the first one before the other in the order of starts
pub record Meeting (r : PlacedTest → PlacedTest → Bool) (placed : List PlacedTest) (begins : List Begin) (p q c : ℕ) : Type 0 where
  pub a : Begin
  pub b : Begin
  pub x : PlacedTest
  pub y : PlacedTest
  pub at : slice_get begins p ≡ Some a
  pub at' : slice_get begins q ≡ Some b
  pub test : slice_get placed a.place ≡ Some x
  pub test' : slice_get placed b.place ≡ Some y
  pub order : p < q
  pub both : BothAt r x y c

-- the least cycle of a meeting
pub record IsLeastMeeting (r : PlacedTest → PlacedTest → Bool) (placed : List PlacedTest) (begins : List Begin) (c : ℕ) : Type 0 where
  pub p : ℕ
  pub q : ℕ
  pub meeting : Meeting r placed begins p q c
  pub least : (p q d : ℕ) → Meeting r placed begins p q d → c ≤ d

abbrev pub IsFirstMeeting : (PlacedTest → PlacedTest → Bool) → List PlacedTest → List Begin → Option ℕ → Type 0
IsFirstMeeting r placed begins None = (p q c : ℕ) → Meeting r placed begins p q c → ⊥
IsFirstMeeting r placed begins (Some c) = IsLeastMeeting r placed begins c

abbrev pub earlier_of : Option ℕ → Option ℕ → Option ℕ
earlier_of None b = b
earlier_of (Some a) None = Some a
earlier_of (Some a) (Some b) = Some (min a b)
