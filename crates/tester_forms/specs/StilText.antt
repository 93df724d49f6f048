-- A plan's run in STIL (IEEE 1450-1999): the signals and their timing, then a vector for each cycle.
use Rattle.std.specs.Prelude.{ℕ, ◌-◌, List, [], ◌∷◌, ◌++◌, length, map, codes, decimal, nat_eq, if◌then◌else◌}
use Rattle.std.specs.List.{flat_map}
use Rattle.controls.specs.declared.Control.{Control}
use Rattle.cycle_texts.specs.Rows.{CycleRow}
use Rattle.tester_forms.specs.Pieces.{signal_name, where_some}

-- ---- the title

-- within quotes `'` stands for `"`
abbrev pub quoted_byte : ℕ → ℕ
quoted_byte b = if nat_eq b 34 then 39 else b

-- the name of the chip; `soc` where it has none
abbrev pub title : (name : List ℕ) → List ℕ
title [] = codes "soc"
title (b ∷ bs) = map quoted_byte (b ∷ bs)

-- ---- the signals

-- all wires of a plan, in brackets
unfoldable pub wire_range : (wires : ℕ) → List ℕ
wire_range wires = codes "[0.." ++ (decimal (wires - 1) ++ codes "]")

-- the lines of the wires among the signals: `wi` is driven, `wo` compared
unfoldable pub wire_signals : (wires : ℕ) → List ℕ
wire_signals wires = codes "  wi" ++ (wire_range wires ++ (codes " In;\n  wo" ++ (wire_range wires ++ codes " Out;\n")))

-- the line of a control among them
abbrev pub control_signal : Control → List ℕ
control_signal control = codes "  " ++ (signal_name control ++ codes " In;\n")

-- the groups of the wires
unfoldable pub wire_groups : (wires : ℕ) → List ℕ
wire_groups wires = codes "  i = 'wi" ++ (wire_range wires ++ (codes "';\n  o = 'wo" ++ (wire_range wires ++ codes "';\n")))

-- a control behind another one of a group
abbrev pub added : Control → List ℕ
added control = codes " + " ++ signal_name control

-- the group of the controls, where there are any
abbrev pub control_group : List Control → List ℕ
control_group [] = []
control_group (x ∷ xs) = codes "  c = '" ++ (signal_name x ++ (flat_map added xs ++ codes "';\n"))

-- ---- the text before the first cycle

-- up to the clock among the signals
unfoldable pub opening : (name : List ℕ) → List ℕ
opening name = codes "STIL 1.0;\nHeader { Title \"" ++ (title name ++ codes "\"; }\nSignals {\n  clock In;\n")

unfoldable pub signals : (wires : ℕ) → List Control → List ℕ
signals wires controls = where_some wires (wire_signals wires) ++ flat_map control_signal controls

unfoldable pub groups : (wires : ℕ) → List Control → List ℕ
groups wires controls =
    codes "}\nSignalGroups {\n" ++ (where_some wires (wire_groups wires) ++ (control_group controls ++ codes "}\nTiming plan {\n"))

-- the table of waveforms up to that of the clock; those of the wires, which change as a cycle begins, and are compared before the clock
-- rises; that of the controls; and what closes the table
abbrev pub clock_waveform : List ℕ
clock_waveform =
    codes "  WaveformTable cycle {\n    Period '100ns';\n    Waveforms {\n      clock { P { '0ns' D; '50ns' U; '75ns' D; } }\n"

abbrev pub wire_waveforms : List ℕ
wire_waveforms = codes "      i { 01 { '0ns' D/U; } }\n      o { LHX { '40ns' L/H/X; } }\n"

abbrev pub control_waveform : List ℕ
control_waveform = codes "      c { 01 { '0ns' D/U; } }\n"

abbrev pub waveforms_end : List ℕ
waveforms_end = codes "    }\n  }\n}\n"

unfoldable pub waveforms : (wires controls : ℕ) → List ℕ
waveforms wires controls = clock_waveform ++ (where_some wires wire_waveforms ++ (where_some controls control_waveform ++ waveforms_end))

-- the pattern begins
unfoldable pub pattern_begin : List ℕ
pattern_begin =
    codes "PatternBurst all { PatList { plan; } }\nPatternExec { Timing plan; PatternBurst all; }\nPattern plan {\n  W cycle;\n"

-- the whole text before the first cycle, of a chip of a name under a plan with so many wires
unfoldable pub stil_head : (name : List ℕ) → (wires : ℕ) → List Control → List ℕ
stil_head name wires controls =
    opening name ++ (signals wires controls ++ (groups wires controls ++ (waveforms wires (length controls) ++ pattern_begin)))

-- ---- the line of a cycle

-- a bit that is compared: 0, 1, or none
abbrev pub compared_letter : ℕ → ℕ
compared_letter mark = if nat_eq mark 48 then 76 else if nat_eq mark 49 then 72 else 88

-- what the wires carry and what is compared on them, where there are any
abbrev pub wire_bits : (driven compared : List ℕ) → List ℕ
wire_bits driven compared =
    where_some (length driven) (codes " i = " ++ (driven ++ (codes "; o = " ++ (map compared_letter compared ++ codes ";"))))

-- the controls, where there are any
abbrev pub control_bits : (controls : List ℕ) → List ℕ
control_bits controls = where_some (length controls) (codes " c = " ++ (controls ++ codes ";"))

unfoldable pub stil_line : CycleRow → List ℕ
stil_line row = codes "  V { clock = P;" ++ (wire_bits row.driven row.compared ++ (control_bits row.controls ++ codes " }\n"))

-- ---- the text behind the last cycle

abbrev pub stil_tail : List ℕ
stil_tail = codes "}\n"
