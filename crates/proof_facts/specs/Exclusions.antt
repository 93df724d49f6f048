-- Live tests that exclude each other: no good plan has both under way at one cycle. They go by their places among the live tests.
use Rattle.std.specs.Prelude.{◌≡◌, ◌≢◌, ℕ, zero, suc, ◌+◌, ◌<◌, ◌&&◌, ◌||◌, Bool, false, Option, Some, None, List, not, map, length, nat_eq, nat_lt, slice_get}
use Rattle.std.specs.List.{list_any, Contains}
use Rattle.soc_model.specs.declared.TestId.{TestId}
use Rattle.soc_model.specs.Chips.{SocValue, LiveTest, live_tests, id_of, same_test, IsParent, parent_place}
use Rattle.plan_model.specs.Plans.{ProfileValue, LimitsValue, of_first, smallest}
use Rattle.live_tests.specs.Names.{precedences}

-- a path of one or more precedences leads from one test to another
pub data Leads (pairs : List (ℕ × ℕ)) : ℕ → ℕ → Type 0 where
  OnePair : (i j : ℕ) → Contains pairs (i, j) → Leads pairs i j
  PairFirst : (i k j : ℕ) → Contains pairs (i, k) → Leads pairs k j → Leads pairs i j

-- the least power of a test's profile, or its own power where it has none
abbrev pub least_power_of : LimitsValue → TestId → (own : ℕ) → ℕ
least_power_of limits id own =
    of_first (λ (p : ProfileValue). same_test p.test id) (λ p. smallest (map (λ (s : ℕ × ℕ). s.1) p.steps)) own limits.profiles

-- that of a live test
abbrev pub least_power : LimitsValue → LiveTest → ℕ
least_power limits l = least_power_of limits (id_of l) l.test.power

-- why the live test `a` at place `i` and the live test `b` at place `j` exclude each other
pub data Reason (soc : SocValue) (limits : LimitsValue) (i j : ℕ) (a b : LiveTest) : Type 0 where
  OneModule : a.place ≡ b.place → Reason soc limits i j a b
  IsParentOf : IsParent soc.modules a.place b.place → Reason soc limits i j a b
  IsChildOf : IsParent soc.modules b.place a.place → Reason soc limits i j a b
  ComesBefore : Leads (precedences soc limits) i j → Reason soc limits i j a b
  ComesAfter : Leads (precedences soc limits) j i → Reason soc limits i j a b
  TooMuchPower : (most : ℕ) → limits.power ≡ Some most → most < least_power limits a + least_power limits b → Reason soc limits i j a b

-- two different live tests that exclude each other
pub record Excludes (soc : SocValue) (limits : LimitsValue) (i j : ℕ) : Type 0 where
  pub first : LiveTest
  pub second : LiveTest
  pub first_at : slice_get (live_tests soc) i ≡ Some first
  pub second_at : slice_get (live_tests soc) j ≡ Some second
  pub differ : i ≢ j
  pub reason : Reason soc limits i j first second

-- ---- the same as a test

-- one of the pairs goes from `i` to `j`
abbrev pub has_pair : List (ℕ × ℕ) → (i j : ℕ) → Bool
has_pair pairs i j = list_any (λ (e : ℕ × ℕ). nat_eq e.0 i && nat_eq e.1 j) pairs

-- a path leads from `i` to `j`, and all tests between them are at places below `n`
unfoldable pub leads : List (ℕ × ℕ) → (n i j : ℕ) → Bool
leads pairs zero i j = has_pair pairs i j
leads pairs (suc n) i j = leads pairs n i j || (leads pairs n i n && leads pairs n n j)

-- the place is there, and is this one
abbrev pub is_place : Option ℕ → ℕ → Bool
is_place None place = false
is_place (Some p) place = nat_eq p place

-- there is a limit, and it is less
abbrev pub is_passed : Option ℕ → ℕ → Bool
is_passed None n = false
is_passed (Some most) n = nat_lt most n

-- one of the reasons holds
abbrev pub has_reason : SocValue → LimitsValue → (i j : ℕ) → LiveTest → LiveTest → Bool
has_reason soc limits i j a b =
    let pairs = precedences soc limits in
    let count = length (live_tests soc) in
    (nat_eq a.place b.place || is_place (parent_place soc.modules b.place) a.place || is_place (parent_place soc.modules a.place) b.place)
    || (leads pairs count i j || leads pairs count j i) || is_passed limits.power (least_power limits a + least_power limits b)

-- both are there and pass
abbrev pub both_pass : (LiveTest → LiveTest → Bool) → Option LiveTest → Option LiveTest → Bool
both_pass p None b = false
both_pass p (Some a) None = false
both_pass p (Some a) (Some b) = p a b

-- the live tests at the two places exclude each other
unfoldable pub excludes : SocValue → LimitsValue → (i j : ℕ) → Bool
excludes soc limits i j =
    not (nat_eq i j) && both_pass (has_reason soc limits i j) (slice_get (live_tests soc) i) (slice_get (live_tests soc) j)
