-- Cases on the buses of a plan: how wide the bus of each rank may be, and on which buses each module may be.
use Rattle.std.specs.Prelude.{ℕ, ◌+◌, ◌-◌, ◌<◌, ◌⊎◌, Bool, true, false, ◌&&◌, not, min, max, List, [], ◌∷◌, ◌++◌, length, map, take, drop, nat_eq, slice_index_or, if◌then◌else◌}
use Rattle.std.specs.List.{sum_by, list_any}
pub use Rattle.leaf_bounds.specs.declared.widths.Interval.{Interval}

-- from the one to the other
abbrev pub interval : (low high : ℕ) → Interval
interval low high = record { low = low; high = high }

-- The widths that the buses of the first ranks may have, rank by rank; on which of these ranks a module may be, and whether
-- it may be on the rest, any later rank. Modules go by their places; those without a test over the wires don't matter.
pub record Case : Type 0 where
  pub intervals : List Interval
  pub may : (place rank : ℕ) → Bool
  pub may_rest : (place : ℕ) → Bool

-- the ranks that the case speaks of one by one
abbrev pub known_ranks : Case → ℕ
known_ranks c = length c.intervals

-- the interval of a rank, and its ends
abbrev pub interval_of : List Interval → ℕ → Interval
interval_of intervals rank = slice_index_or intervals rank (interval 0 0)

abbrev pub low_at : Case → ℕ → ℕ
low_at c rank = (interval_of c.intervals rank).low

abbrev pub high_at : Case → ℕ → ℕ
high_at c rank = (interval_of c.intervals rank).high

-- at the root nothing is said of any bus
abbrev pub root_case : Case
root_case = record { intervals = []; may = λ place rank. false; may_rest = λ place. true }

-- the least widths of all known ranks, together
abbrev pub least_wires : List Interval → ℕ
least_wires intervals = sum_by (λ (i : Interval). i.low) intervals

-- the wires beyond these
abbrev pub spare : (w : ℕ) → List Interval → ℕ
spare w intervals = w - least_wires intervals

-- ---- tightening

-- no width takes more than the spare wires beyond the least, and none is above the greatest of the rank before, which is `above`
abbrev pub tightened_below : (more above : ℕ) → List Interval → List Interval
tightened_below more above [] = []
tightened_below more above (i ∷ is) =
    let high = min (min i.high (i.low + more)) above in
    interval i.low high ∷ tightened_below more high is

-- the first rank has no other before it
abbrev pub tightened_by : (more : ℕ) → List Interval → List Interval
tightened_by more [] = []
tightened_by more (i ∷ is) = tightened_below more i.high (i ∷ is)

-- all intervals of the case, on `w` wires
abbrev pub tightened : (w : ℕ) → Case → Case
tightened w c = record { intervals = tightened_by (spare w c.intervals) c.intervals; may = c.may; may_rest = c.may_rest }

-- a case without plans: the least widths take more than all wires, or a rank has no width
abbrev pub IsEmpty : (w : ℕ) → Case → Type 0
IsEmpty w c = (w < least_wires c.intervals) ⊎ ((rank : ℕ) × (rank < known_ranks c) × (high_at c rank < low_at c rank))

-- ---- two cases by the width of a rank

-- one more rank: it may have any width, and what may be on the rest may be on it
abbrev pub extended : (w : ℕ) → Case → Case
extended w c = record {
  intervals = c.intervals ++ interval 0 w ∷ [];
  may = λ place rank. if nat_eq rank (length c.intervals) then c.may_rest place else c.may place rank;
  may_rest = c.may_rest;
}

-- widths up to this one, and widths from this one on
abbrev pub at_most : (width : ℕ) → Interval → Interval
at_most width i = interval i.low (min i.high width)

abbrev pub at_least : (width : ℕ) → Interval → Interval
at_least width i = interval (max i.low width) i.high

-- the bus of the rank has at most this width, and so each later one
abbrev pub narrow : Case → (rank width : ℕ) → Case
narrow c rank width = record c { intervals = take rank c.intervals ++ map (at_most width) (drop rank c.intervals) }

-- it has more, and so each earlier one
abbrev pub wide : Case → (rank width : ℕ) → Case
wide c rank width = record c { intervals = map (at_least (width + 1)) (take (rank + 1) c.intervals) ++ drop (rank + 1) c.intervals }

-- ---- two cases by the place of a module

-- the module at a place is on the rank alone, where it may be on it
abbrev pub placed_on : Case → (rank place : ℕ) → Case
placed_on c rank place = record c {
  may = λ p r. if nat_eq p place then c.may p r && nat_eq r rank else c.may p r;
  may_rest = λ p. if nat_eq p place then false else c.may_rest p;
}

-- it is on none of these ranks
abbrev pub placed_off : Case → (ranks : List ℕ) → (place : ℕ) → Case
placed_off c ranks place = record c { may = λ p r. if nat_eq p place then c.may p r && not (list_any (nat_eq r) ranks) else c.may p r }
