-- Tables of the times of modules.
use Rattle.std.specs.Prelude.{◌≡◌, ℕ, ◌+◌, ◌-◌, ◌*◌, ◌^◌, ◌<◌, ◌≤◌, ◌&&◌, not, List, length, slice_index}
use Rattle.soc_model.specs.Chips.{SocValue, soc_value}
use Rattle.soc_model.specs.SoundChips.{IsSoundChip}
use Rattle.plan_model.specs.Bounds.{sum_where, is_of, lower_tam_time}
use Rattle.width_tree.specs.declared.tables.ChipTimes.{ChipTimes}

-- where the time of the module at a place on a width stands: each module has a row of 256 widths
abbrev pub place_of_time : (place width : ℕ) → ℕ
place_of_time place width = place * 256 + (width - 1)

-- the row of the module at a place
pub record HasRow (soc : SocValue) (w : ℕ) (times : List ℕ) (place : ℕ) : Type 0 where
  pub time : (v : ℕ) → 1 ≤ v → v ≤ w → slice_index times (place_of_time place v) ≡ lower_tam_time soc place v
  pub small : (v : ℕ) → 1 ≤ v → v ≤ w → slice_index times (place_of_time place v) ≤ 10 ^ 18

-- the rows of all modules
abbrev pub AreTimes : SocValue → (w : ℕ) → List ℕ → Type 0
AreTimes soc w times = (place : ℕ) → place < length soc.modules → HasRow soc w times place

-- the cycles of the self tests of the module at a place, together
abbrev pub own_time : SocValue → ℕ → ℕ
own_time soc place = sum_where (λ l. not l.test.tam && is_of place l) (λ l. l.test.patterns) soc

-- the cycles of the self tests of all modules
pub record AreOwnTimes (soc : SocValue) (own : List ℕ) : Type 0 where
  pub time : (place : ℕ) → place < length soc.modules → slice_index own place ≡ own_time soc place
  pub small : (place : ℕ) → place < length soc.modules → slice_index own place ≤ 10 ^ 18

-- the chip of a table
abbrev pub chip_of : ChipTimes → SocValue
chip_of t = soc_value t.soc.now

-- the times of a sound chip on each width of some wires
pub record IsTable (t : ChipTimes) : Type 0 where
  pub sound : IsSoundChip (chip_of t)
  pub some_wire : 1 ≤ t.wires
  pub few_wires : t.wires ≤ 256
  pub long : length t.times.now ≡ length (chip_of t).modules * 256
  pub times : AreTimes (chip_of t) t.wires t.times.now
  pub own_long : length t.own.now ≡ length (chip_of t).modules
  pub own : AreOwnTimes (chip_of t) t.own.now
