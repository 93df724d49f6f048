-- A table of the times of all modules of a chip at all widths, by their places in the chip.
use Rattle.std.specs.Prelude.{◌≡◌, ℕ, ◌≤◌, ◌^◌, ◌<◌, Bool, true, Option, Some, None, length, slice_get, nat_lt}
use Rattle.soc_model.specs.Chips.{ModuleValue, SocValue}
use Rattle.soc_model.specs.SoundChips.{IsSoundChip}
use Rattle.plan_model.specs.Bounds.{sum_below}
use Rattle.plan_model.specs.Certificates.{has_tam_at}
use Rattle.width_table.specs.Times.{time}

-- what a table stands for: a chip and a number of wires
pub record TableValue : Type 0 where
  pub soc : SocValue
  pub wires : ℕ

abbrev pub places_of : TableValue → ℕ
places_of table = length table.soc.modules

abbrev pub time_if : ℕ → Option ModuleValue → ℕ
time_if width None = 0
time_if width (Some m) = time m width

-- the time of the module at a place on a bus of a width, 0 where there is no module
unfoldable pub time_of : TableValue → (place width : ℕ) → ℕ
time_of table place width = time_if width (slice_get table.soc.modules place)

-- the module at a place has a live test over the wires
abbrev pub has_tam : TableValue → ℕ → Bool
has_tam table place = has_tam_at table.soc place

-- what every table keeps
pub record IsTable (table : TableValue) : Type 0 where
  pub sound : IsSoundChip table.soc
  pub some_wires : 1 ≤ table.wires
  pub few_wires : table.wires ≤ 256
  -- what has a test over the wires is a module of the chip
  pub in_range : (p : ℕ) → has_tam table p ≡ true → p < places_of table
  -- the time never grows with the width
  pub falls : (p v w : ℕ) → 1 ≤ v → v ≤ w → time_of table p w ≤ time_of table p v
  -- there is a time exactly where there is such a test
  pub tested : (p w : ℕ) → 1 ≤ w → nat_lt 0 (time_of table p w) ≡ has_tam table p
  -- the times on one wire of all modules, together
  pub bounded : sum_below (λ p. time_of table p 1) (places_of table) ≤ 10 ^ 18
