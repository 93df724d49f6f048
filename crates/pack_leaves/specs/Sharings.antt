-- Wires shared out among buses: some known ranks, and any number of buses of the rest.
use Rattle.std.specs.Prelude.{◌≡◌, ℕ, ◌+◌, ◌-◌, ◌<◌, ◌≤◌}
use Rattle.plan_model.specs.Bounds.{sum_below}
use Rattle.pack_leaves.specs.Greatest.{IsGreatest}

-- how many buses of the rest, the wires of each, and of each rank those beyond its least
pub record Sharing : Type 0 where
  pub buses : ℕ
  pub rest : (bus : ℕ) → ℕ
  pub ranks : (rank : ℕ) → ℕ

-- of the first `known` ranks each has no more than its span, no bus of the rest is wider than `high`, and all take at most `x` wires
pub record IsSharing (spans : ℕ → ℕ) (high known x : ℕ) (s : Sharing) : Type 0 where
  pub rest : (bus : ℕ) → bus < s.buses → s.rest bus ≤ high
  pub ranks : (rank : ℕ) → rank < known → s.ranks rank ≤ spans rank
  pub fits : sum_below s.rest s.buses + sum_below s.ranks known ≤ x

-- what the buses are worth together: those of the rest by their width, a rank by its wires beyond its least
abbrev pub sharing_worth : (rest : ℕ → ℕ) (ranks : ℕ → ℕ → ℕ) (known : ℕ) → Sharing → ℕ
sharing_worth rest ranks known s = sum_below (λ bus. rest (s.rest bus)) s.buses + sum_below (λ rank. ranks rank (s.ranks rank)) known

-- the most on `x` wires
abbrev pub IsMostShared : (rest : ℕ → ℕ) (ranks : ℕ → ℕ → ℕ) (spans : ℕ → ℕ) (high known x n : ℕ) → Type 0
IsMostShared rest ranks spans high known x n = IsGreatest (IsSharing spans high known x) (sharing_worth rest ranks known) n

-- ---- bus by bus

-- a number of wires for one bus, of `x`
pub record IsWidth (first high x width : ℕ) : Type 0 where
  pub from : first ≤ width
  pub to : width ≤ high
  pub within : width ≤ x

-- what that bus is worth, with the most on the wires that are left
abbrev pub with_bus : (worth row : ℕ → ℕ) (x width : ℕ) → ℕ
with_bus worth row x width = worth width + row (x - width)

-- the most with one rank more
abbrev pub IsWithRank : (worth row : ℕ → ℕ) (span x n : ℕ) → Type 0
IsWithRank worth row span x n = IsGreatest (IsWidth 0 span x) (with_bus worth row x) n

-- The most on `x` wires by buses of the rest, where `row` has it for fewer wires: of none, or with one bus of some wires.
pub record IsWithRest (worth row : ℕ → ℕ) (high x n : ℕ) : Type 0 where
  pub reached : (n ≡ 0 → ⊥) → (width : ℕ) × IsWidth 1 high x width × (with_bus worth row x width ≡ n)
  pub most : (width : ℕ) → IsWidth 1 high x width → with_bus worth row x width ≤ n
