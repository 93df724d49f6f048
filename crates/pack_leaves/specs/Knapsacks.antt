-- Items on a bus: which may be there, what each takes of its cells, and what it is worth.
use Rattle.std.specs.Prelude.{◌≡◌, ℕ, zero, suc, ◌+◌, ◌-◌, ◌<◌, ◌≤◌, Bool, true, false, max, nat_le, if◌then◌else◌}
use Rattle.plan_model.specs.Bounds.{sum_below}
use Rattle.pack_leaves.specs.Greatest.{IsGreatest}

-- some of the first `count` items, all of which may be there, and which fit in the cells together
pub record IsLoad (cells count : ℕ) (may : ℕ → Bool) (time : ℕ → ℕ) (taken : ℕ → Bool) : Type 0 where
  pub allowed : (i : ℕ) → i < count → taken i ≡ true → may i ≡ true
  pub fits : sum_below (λ i. if taken i then time i else 0) count ≤ cells

-- what they are worth together
abbrev pub load_worth : (count : ℕ) (net : ℕ → ℕ) (taken : ℕ → Bool) → ℕ
load_worth count net taken = sum_below (λ i. if taken i then net i else 0) count

-- ---- item by item

-- the most in some cells with one item more, where `row` has the most without it
abbrev pub with_item : (may : Bool) (time net : ℕ) (row : ℕ → ℕ) (cells : ℕ) → ℕ
with_item false time net row cells = row cells
with_item true time net row cells = if nat_le time cells then max (row cells) (net + row (cells - time)) else row cells

-- the most that the first `count` items are worth
unfoldable pub most_worth : (may : ℕ → Bool) (time net : ℕ → ℕ) (count cells : ℕ) → ℕ
most_worth may time net zero cells = 0
most_worth may time net (suc i) cells = with_item (may i) (time i) (net i) (most_worth may time net i) cells

-- what goes on item by item is the greatest worth of a load
abbrev pub LoadsAreMost : Type 0
LoadsAreMost =
    (may : ℕ → Bool) (time net : ℕ → ℕ) (count cells : ℕ) →
    IsGreatest (IsLoad cells count may time) (load_worth count net) (most_worth may time net count cells)
