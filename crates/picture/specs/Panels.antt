-- From cycles and rows to the units of a picture.
use Rattle.std.specs.Prelude.{ℕ, ◌+◌, ◌-◌, ◌*◌, ◌/◌, max, min, nat_eq, if◌then◌else◌}
use Rattle.picture.specs.declared.panels.Outline.{Outline}
use Rattle.picture.specs.declared.panels.Panel.{Panel}
use Rattle.picture.specs.declared.panels.Rectangle.{Rectangle}

-- where `part` of `all` stands on a stretch of `size` units, which it doesn't leave
unfoldable pub scaled : (part all size : ℕ) → ℕ
scaled part all size = if nat_eq all 0 then 0 else min (part * size / all) size

-- where a cycle begins, of `cycles` cycles beside each other
abbrev pub column : (cycle cycles : ℕ) → ℕ
column cycle cycles = 120 + scaled cycle cycles 1000

-- where a row of a panel begins
abbrev pub row_line : Panel → (row : ℕ) → ℕ
row_line p row = p.top + scaled row p.rows p.height

-- a rectangle in units: at least one wide, and one high
abbrev pub outline_of : Panel → Rectangle → Outline
outline_of p r = record {
  x = column r.start p.cycles;
  y = row_line p r.first;
  width = max 1 (column r.end p.cycles - column r.start p.cycles);
  height = max 1 (row_line p r.last - row_line p r.first);
}

-- the panel of the wires, and below it that of the lanes of self tests
abbrev pub wires_panel : (cycles wires : ℕ) → Panel
wires_panel cycles wires = record { top = 40; height = 20 * min wires 24; rows = wires; cycles = cycles }

abbrev pub lanes_panel : (cycles wires lanes : ℕ) → Panel
lanes_panel cycles wires lanes = record { top = 52 + 20 * min wires 24; height = 16 * min lanes 128; rows = lanes; cycles = cycles }

-- where a panel ends
abbrev pub below : Panel → ℕ
below p = p.top + p.height
