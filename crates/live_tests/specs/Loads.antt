-- What the tests of a plan draw together, and the cycles at which that changes.
use Rattle.std.specs.Prelude.{◌≡◌, [], ◌∷◌, ℕ, zero, suc, ◌+◌, ◌-◌, Bool, ◌&&◌, not, List, map, nat_le, nat_lt, nat_eq, if◌then◌else◌}
use Rattle.std.specs.List.{filter, range_with_len, sum_by}
use Rattle.plan_model.specs.Plans.{LimitsValue, power_of_id}
use Rattle.live_tests.specs.declared.power_events.Event.{Event}
use Rattle.live_tests.specs.Events.{begun_by, ended_by}
use Rattle.live_tests.specs.declared.placed.PlacedTest.{PlacedTest}

abbrev pub is_active : ℕ → PlacedTest → Bool
is_active c t = nat_le t.start c && nat_lt c t.end

-- what a test draws at a cycle, 0 where it isn't active
abbrev pub drawn : LimitsValue → ℕ → PlacedTest → ℕ
drawn limits c t = if is_active c t then power_of_id limits t.id t.power (c - t.start) else 0

-- what the tests draw together
abbrev pub drawn_by : LimitsValue → List PlacedTest → ℕ → ℕ
drawn_by limits tests c = sum_by (drawn limits c) tests

-- a load at the cycle before, 0 before the first one
abbrev pub before : (ℕ → ℕ) → ℕ → ℕ
before load zero = 0
before load (suc c) = load c

-- the load isn't what it was at the cycle before
abbrev pub changes : (ℕ → ℕ) → ℕ → Bool
changes load c = not (nat_eq (load c) (before load c))

-- the steps of a load over the cycles from 0 up to `last`: each cycle at which it changes, with the load from there on
abbrev pub load_steps : (ℕ → ℕ) → (last : ℕ) → List (ℕ × ℕ)
load_steps load last = map (λ c. (c, load c)) (filter (changes load) (range_with_len 0 (last + 1)))

-- a cycle with the load from there on, where it isn't the load before
abbrev pub with_change : (before cycle load : ℕ) → List (ℕ × ℕ)
with_change before cycle load = if nat_eq load before then [] else (cycle, load) ∷ []

-- what has begun by a cycle is what has ended by then and the load
abbrev pub IsLoad : (ℕ → ℕ) → List Event → Type 0
IsLoad load events = (c : ℕ) → load c + ended_by events c ≡ begun_by events c
