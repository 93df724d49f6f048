-- The scale of a picture: thin lines at round cycles, and their numbers below all panels.
use Rattle.std.specs.Prelude.{ℕ, ◌+◌, ◌-◌, ◌*◌, ◌/◌, ◌^◌, List, ◌++◌, length, map, max, min, nat_le, codes, decimal, if◌then◌else◌}
use Rattle.std.specs.List.{flat_map, range_with_len}
use Rattle.picture.specs.Panels.{column}
use Rattle.picture.specs.Marks.{label_at, label_end}

-- the power of ten that the first digit of a number counts
unfoldable pub leading_power : ℕ → ℕ
leading_power n = 10 ^ (length (decimal n) - 1)

-- how many cycles are from one mark to the next: that power, a half of it, or a fifth, so that 4 to 9 marks come after the first one; 1 in
-- a plan of less than 10 cycles
abbrev pub step_within : (power cycles : ℕ) → ℕ
step_within power cycles = max 1 (if nat_le (5 * power) cycles then power else if nat_le (2 * power) cycles then power / 2 else power / 5)

unfoldable pub mark_step : (cycles : ℕ) → ℕ
mark_step cycles = step_within (leading_power cycles) cycles

-- the cycles that are marked: all multiples of a step
abbrev pub marks_by : (step cycles : ℕ) → List ℕ
marks_by step cycles = map (λ n. n * step) (range_with_len 0 (cycles / step + 1))

-- the line of a mark, from the panel of the wires down to its number
abbrev pub mark_line : (cycles bottom cycle : ℕ) → List ℕ
mark_line cycles bottom cycle = codes "M" ++ (decimal (column cycle cycles) ++ (codes " 40V" ++ decimal (bottom + 4)))

-- where the middle of its number stands, which doesn't leave the picture
abbrev pub number_middle : (x cycle : ℕ) → ℕ
number_middle x cycle = min x (1136 - 4 * length (decimal cycle))

unfoldable pub mark_number : (cycles bottom cycle : ℕ) → List ℕ
mark_number cycles bottom cycle =
    label_at (codes "m") (number_middle (column cycle cycles) cycle) (bottom + 14) ++ (decimal cycle ++ label_end)

-- the lines and then the numbers, with what they count
unfoldable pub scale_by : (step cycles bottom : ℕ) → List ℕ
scale_by step cycles bottom =
    codes "<path class='g' d='" ++ (flat_map (mark_line cycles bottom) (marks_by step cycles) ++ (codes "'/>\n" ++
    (label_at (codes "e") 114 (bottom + 14) ++ (codes "cycles</text>\n" ++ flat_map (mark_number cycles bottom) (marks_by step cycles)))))

abbrev pub scale_text : (cycles bottom : ℕ) → List ℕ
scale_text cycles bottom = scale_by (mark_step cycles) cycles bottom
