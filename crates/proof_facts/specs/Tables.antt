-- The packed times of all modules of a chip on each width of some wires.
use Rattle.std.specs.Prelude.{◌≡◌, ℕ, ◌<◌, ◌≤◌, List, length, map, slice_index}
use Rattle.std.specs.List.{All, sum, range_with_len}
use Rattle.soc_model.specs.Chips.{ModuleValue, SocValue}
use Rattle.soc_model.specs.SoundChips.{IsSoundChip}
use Rattle.proof_facts.specs.declared.table.ModuleTimes.{ModuleTimes}
use Rattle.proof_facts.specs.Packed.{packed}
use Rattle.proof_facts.specs.Times.{tam_times_of, self_times_of}

-- what a table of packed times is for: a chip, and a number of wires
pub record TableValue : Type 0 where
  pub chip : SocValue
  pub wires : ℕ

-- a module's row: on each width from 1 on what its scan chains are packed to and what its tests over the wires take, and beside
-- these the lengths of its scan chains together and the patterns of its self tests
pub record RowValue : Type 0 where
  pub packed : List ℕ
  pub tam : List ℕ
  pub flops : ℕ
  pub own : ℕ

abbrev pub row_value : ModuleTimes → RowValue
row_value r = record { packed = r.packed.items; tam = r.tam.items; flops = r.flops; own = r.own }

abbrev pub row_of : ℕ → ModuleValue → RowValue
row_of wires m = record {
  packed = map (packed m.chains) (range_with_len 1 wires);
  tam = map (λ w. tam_times_of m w m.tests) (range_with_len 1 wires);
  flops = sum m.chains;
  own = self_times_of m.tests;
}

-- behind a place of a list the next one at which another number stands, or the end of the list
pub record IsNextChange (xs : List ℕ) (place next : ℕ) : Type 0 where
  pub after : place < next
  pub within : next ≤ length xs
  pub same : (j : ℕ) → place ≤ j → j < next → slice_index xs j ≡ slice_index xs place
  pub other : next < length xs → slice_index xs next ≡ slice_index xs place → ⊥

-- the next change behind each place of a list
pub record AreNextChanges (xs ns : List ℕ) : Type 0 where
  pub long : length ns ≡ length xs
  pub each : (i : ℕ) → i < length xs → IsNextChange xs i (slice_index ns i)

-- the row has the widths at which its times change
abbrev pub HasChanges : ModuleTimes → Type 0
HasChanges r = AreNextChanges r.tam.items r.next.items

-- a table has the rows of all modules of its chip, which is sound
pub record IsTable (t : TableValue) (rows : List ModuleTimes) : Type 0 where
  pub sound : IsSoundChip t.chip
  pub some_wire : 1 ≤ t.wires
  pub few_wires : t.wires ≤ 256
  pub rows_are : map row_value rows ≡ map (row_of t.wires) t.chip.modules
  pub changes : All HasChanges rows
