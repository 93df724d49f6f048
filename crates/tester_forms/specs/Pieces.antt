-- The pieces that texts with a part for each cycle have in common.
use Rattle.std.specs.Prelude.{ℕ, List, [], ◌++◌, codes, decimal, nat_eq, if◌then◌else◌}
use Rattle.controls.specs.declared.Control.{Control}
use Rattle.controls.specs.declared.Control.TheVariants as control
use Rattle.tester_forms.specs.declared.pieces.Letters.{Letters}

-- the name of a control's signal: what it says, the number of the module, and for a run that of the test
abbrev pub signal_name : Control → List ℕ
signal_name (control.Run id) = codes "run_" ++ (decimal id.«module» ++ (codes "_" ++ decimal id.test))
signal_name (control.Shift m) = codes "shift_" ++ decimal m
signal_name (control.Capture m) = codes "capture_" ++ decimal m

-- the letter for what is compared on a wire: `0`, `1`, or nothing
abbrev pub letter_of : Letters → ℕ → ℕ
letter_of letters mark = if nat_eq mark 48 then letters.zero else if nat_eq mark 49 then letters.one else letters.none

-- a text, where there is something that it speaks of
abbrev pub where_some : (count : ℕ) → List ℕ → List ℕ
where_some count text = if nat_eq count 0 then [] else text
