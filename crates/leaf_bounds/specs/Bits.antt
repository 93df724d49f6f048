-- The ranks that modules may be on, bit by bit.
use Rattle.std.specs.Prelude.{◌≡◌, ◌≢◌, ℕ, ◌+◌, ◌*◌, ◌^◌, ◌<◌, ◌≤◌, Bool, true, false, List, length, nat_eq}
use Rattle.std.specs.List.{list_any}
use Rattle.leaf_bounds.specs.declared.places.Placing.{Placing}
use Rattle.leaf_bounds.specs.Cases.{Case, known_ranks}
use Rattle.leaf_bounds.specs.Takings.{bit_at}

-- where it stands whether the module at a place may be on a known rank: behind what is said of the rest, rank by rank
abbrev pub bit_place : (modules place rank : ℕ) → ℕ
bit_place modules place rank = (rank + 1) * modules + place

-- the bits say what the case says of its modules
pub record HasBits (modules : ℕ) (bits : List Bool) (c : Case) : Type 0 where
  pub long : length bits ≡ (known_ranks c + 1) * modules
  pub rest : (p : ℕ) → p < modules → bit_at bits p ≡ c.may_rest p
  pub may : (p q : ℕ) → p < modules → q < known_ranks c → bit_at bits (bit_place modules p q) ≡ c.may p q

-- a module by its place, with bits for all modules on each known rank
pub record HasPlace (bits : List Bool) (at : Placing) : Type 0 where
  pub place : at.place < at.modules
  pub modules : at.modules < 2 ^ 40
  pub known : at.known ≤ 256
  pub long : length bits ≡ (at.known + 1) * at.modules

-- some ranks are taken from the module at a place, and nothing else
pub record IsWithout (modules place : ℕ) (Taken : ℕ → Type 0) (before after : List Bool) : Type 0 where
  pub long : length after ≡ length before
  pub taken : (q : ℕ) → Taken q → bit_at after (bit_place modules place q) ≡ false
  pub kept : (i : ℕ) → ((q : ℕ) → Taken q → i ≢ bit_place modules place q) → bit_at after i ≡ bit_at before i

-- the rank is one of these
abbrev pub IsNamed : List ℕ → ℕ → Type 0
IsNamed ranks q = list_any (nat_eq q) ranks ≡ true

-- each module of those that are marked may be on the one rank exactly where it may be on the other, of the modules at the first places
abbrev pub AreAlike : (modules : ℕ) → (wired bits : List Bool) → (rank twin count : ℕ) → Type 0
AreAlike modules wired bits rank twin count =
    (p : ℕ) → p < count → bit_at wired p ≡ true → bit_at bits (bit_place modules p twin) ≡ bit_at bits (bit_place modules p rank)

-- a marked module may be on one of them alone
pub record IsUnlike (modules : ℕ) (wired bits : List Bool) (rank twin : ℕ) : Type 0 where
  pub place : ℕ
  pub within : place < modules
  pub marked : bit_at wired place ≡ true
  pub differ : bit_at bits (bit_place modules place twin) ≢ bit_at bits (bit_place modules place rank)
