-- Changes of the intervals of a case, and how they are undone.
use Rattle.std.specs.Prelude.{◌≡◌, ℕ, ◌+◌, ◌-◌, ◌*◌, ◌<◌, ◌≤◌, min, List, [], ◌∷◌, ◌++◌, length, take, slice_set, vec_capacity}
use Rattle.std.specs.List.{All, sum_by}
use Rattle.leaf_bounds.specs.declared.widths.Interval.{Interval}
use Rattle.leaf_bounds.specs.declared.widths.IntervalChange.{IntervalChange}
use Rattle.leaf_bounds.specs.declared.widths.IntervalChange.TheVariants.{Added, Was}
use Rattle.leaf_bounds.specs.declared.widths.Widths.{Widths}
use Rattle.leaf_bounds.specs.Cases.{interval, interval_of}

-- the intervals before a change, from those after it
abbrev pub undone_once : List Interval → IntervalChange → List Interval
undone_once is Added = take (length is - 1) is
undone_once is (Was rank old) = slice_set is rank old

-- the intervals before some changes, from those after the last of them
abbrev pub undone : List Interval → List IntervalChange → List Interval
undone is [] = is
undone is (c ∷ cs) = undone_once (undone is cs) c

-- the one is the other after some changes, which are noted behind what was noted before
pub record IsLater (before after : Widths) : Type 0 where
  pub changes : List IntervalChange
  pub trail : after.trail.items ≡ before.trail.items ++ changes
  pub undone_is : undone after.intervals.items changes ≡ before.intervals.items
  pub wires : after.wires ≡ before.wires
  pub most : after.most ≡ before.most
  pub room : vec_capacity after.intervals ≡ vec_capacity before.intervals
  pub trail_room : vec_capacity after.trail ≡ vec_capacity before.trail

-- an interval of at most 256 wires
pub record IsFew (i : Interval) : Type 0 where
  pub low : i.low ≤ 256
  pub high : i.high ≤ 256

-- the one interval lies within the other
pub record IsPart (new old : Interval) : Type 0 where
  pub low : old.low ≤ new.low
  pub high : new.high ≤ old.high
  pub few : IsFew new

-- how often an interval can still become narrower at either end, by one wire each time
abbrev pub changes_left : Interval → ℕ
changes_left i = i.high + (256 - i.low)

-- There is room for each rank that may still come, and for each change: a rank comes once, and its interval changes at most 512 times.
pub record IsRoomy (v : Widths) : Type 0 where
  pub wires : v.wires ≤ 256
  pub ranks : v.most ≤ 256
  pub few : All IsFew v.intervals.items
  pub known : length v.intervals.items ≤ v.most
  pub noted : length v.trail.items + sum_by changes_left v.intervals.items ≤ length v.intervals.items * 513
  pub room : v.most ≤ vec_capacity v.intervals
  pub trail_room : v.most * 513 ≤ vec_capacity v.trail

-- the changes of the one are all undone in the other
pub record IsBack (before after : Widths) : Type 0 where
  pub intervals : after.intervals.items ≡ before.intervals.items
  pub trail : after.trail.items ≡ before.trail.items
  pub roomy : IsRoomy after
  pub later : IsLater before after

-- the interval of a rank, with no more than `more` wires beyond its least width, and no wider than `above`
abbrev pub tight : (more above : ℕ) → Interval → Interval
tight more above i = interval i.low (min (min i.high (i.low + more)) above)

-- a rank has no width
abbrev pub HasGap : List Interval → Type 0
HasGap is = (rank : ℕ) × (rank < length is) × ((interval_of is rank).high < (interval_of is rank).low)

-- each of the first `n` ranks has one
abbrev pub HasNoGap : List Interval → (n : ℕ) → Type 0
HasNoGap is n = (rank : ℕ) → rank < n → (interval_of is rank).low ≤ (interval_of is rank).high
