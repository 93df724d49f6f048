-- What the form of a dump keeps, and what is listed while it is made.
use Rattle.std.specs.Prelude.{◌≡◌, ℕ, ◌<◌, List, [], ◌∷◌, ◌++◌, length, map, take, slice_index_or, codes, decimal}
use Rattle.std.specs.List.{flat_map, range_with_len}
use Rattle.tester_forms.specs.declared.vcd_code.Code.{Code}
use Rattle.tester_forms.specs.Variables.{Source, OfDriven, OfCompared, OfControl}

-- ---- codes

-- the line of a variable's value, with `0` for the value
pub record IsCode (number : ℕ) (code : Code) : Type 0 where
  pub line : take code.length code.bytes ≡ 48 ∷ (codes "s" ++ (decimal number ++ codes "\n"))

-- those of the variables from 0 on
pub record AreCodes (count : ℕ) (all : List Code) : Type 0 where
  pub long : length all ≡ count
  pub each : (number : ℕ) (other : Code) → number < count → IsCode number (slice_index_or all number other)

-- ---- sources

-- of the variables of a wire, of the first wires, and of all variables: those of wires, then controls by their places
abbrev pub sources_of_wire : (wire : ℕ) → List Source
sources_of_wire x = OfDriven x ∷ OfCompared x ∷ []

abbrev pub wire_sources : (wires : ℕ) → List Source
wire_sources wires = flat_map sources_of_wire (range_with_len 0 wires)

abbrev pub control_sources : (places : List ℕ) → List Source
control_sources places = map OfControl places

abbrev pub form_sources : (wires : ℕ) → (places : List ℕ) → List Source
form_sources wires places = wire_sources wires ++ control_sources places
