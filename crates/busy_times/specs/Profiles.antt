-- A profile of the power that is drawn: its load at some cycles, between which it stays the same.
use Rattle.std.specs.Prelude.{◌≡◌, ℕ, zero, suc, ◌+◌, ◌<◌, ◌≤◌, ◌⊎◌, ◌∷◌, Bool, not, nat_eq, if◌then◌else◌, Some, List, length, slice_get, slice_index_or}
use Rattle.std.specs.List.{All, sum_by}
use Rattle.std.specs.List.Sorted.{IsNonDecreasingBy}
use Rattle.busy_times.specs.declared.power.Draw.{Draw}
use Rattle.busy_times.specs.declared.points.Point.{Point}
use Rattle.busy_times.specs.Draws.{taken_by, load_of}

-- what stands past the end of a list of points
abbrev pub no_point : Point
no_point = record { cycle = 0; load = 0; uses = 0 }

-- the load just before the point at a place
abbrev pub load_before : List Point → ℕ → ℕ
load_before points zero = 0
load_before points (suc place) = (slice_index_or points place no_point).load

-- the points tell a load: that of each, none before the first, and no change from one up to the next
pub record IsProfile (load : ℕ → ℕ) (points : List Point) : Type 0 where
  pub ordered : IsNonDecreasingBy (λ (p : Point). p.cycle) points
  pub here : All (λ (p : Point). p.load ≡ load p.cycle) points
  pub none_before : (c : ℕ) → All (λ (p : Point). c < p.cycle) points → load c ≡ 0
  pub between : (a c : ℕ) → a ≤ c → All (λ (p : Point). (p.cycle ≤ a) ⊎ (c < p.cycle)) points → load c ≡ load a

-- the marks that stand at a point of a cycle
abbrev pub uses_at : ℕ → Point → ℕ
uses_at c p = if nat_eq p.cycle c then p.uses else 0

-- the marks that stand at points
abbrev pub all_uses : List Point → ℕ
all_uses points = sum_by (λ (p : Point). p.uses) points

-- whether a mark stands at a point
abbrev pub is_used : Point → Bool
is_used p = not (nat_eq p.uses 0)

-- how often a cycle stands in a list
abbrev pub counted : ℕ → List ℕ → ℕ
counted c cycles = sum_by (λ x. if nat_eq x c then 1 else 0) cycles

-- some cycles stand as marks at points, each with what the draws take there; also points without a mark may stand
pub record ArePoints (draws : List Draw) (cycles : List ℕ) (points : List Point) : Type 0 where
  pub ordered : IsNonDecreasingBy (λ (p : Point). p.cycle) points
  pub loads : All (λ (p : Point). p.load ≡ load_of draws p.cycle) points
  pub marks : (c : ℕ) → sum_by (uses_at c) points ≡ counted c cycles
  pub count : all_uses points ≡ length cycles

-- each draw that takes anything begins and ends at one of the cycles
pub record AreMarked (draws : List Draw) (cycles : List ℕ) : Type 0 where
  pub each : (i : ℕ) (d : Draw) → slice_get draws i ≡ Some d → (d.to ≤ d.from) ⊎ ((1 ≤ counted d.from cycles) × (1 ≤ counted d.to cycles))

-- the points of some draws have a mark more
abbrev pub HaveMarkMore : (cycle : ℕ) → (old new : List Point) → Type 0
HaveMarkMore cycle old new =
    (draws : List Draw) (cycles : List ℕ) → AreMarked draws cycles → ArePoints draws cycles old → ArePoints draws (cycle ∷ cycles) new

-- a point, with a draw that begins to be taken
abbrev pub raised_by : Draw → Point → Point
raised_by d p = record { cycle = p.cycle; load = p.load + taken_by p.cycle d; uses = p.uses }

-- from a cycle on the load is at most `free` for `width` cycles
abbrev pub IsFreeFor : (load : ℕ → ℕ) (free width from : ℕ) → Type 0
IsFreeFor load free width from = (c : ℕ) → from ≤ c → c < from + width → load c ≤ free

-- a load that the points tell and that is over by a cycle
pub record IsEndedProfile (load : ℕ → ℕ) (points : List Point) (last : ℕ) : Type 0 where
  pub profile : IsProfile load points
  pub over : (c : ℕ) → last ≤ c → load c ≡ 0
