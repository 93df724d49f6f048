-- The made chips, as plain lists and numbers.
use Rattle.std.specs.Prelude.{ℕ, ◌+◌, ◌*◌, ◌%◌, Bool, true, false, ◌&&◌, List, [], ◌∷◌, map, nat_eq, nat_lt, codes, if◌then◌else◌}
use Rattle.std.specs.List.{range_with_len}
use Rattle.soc_model.specs.declared.Test.{Test}
use Rattle.soc_model.specs.Chips.{ModuleValue, SocValue}

abbrev pub square : ℕ → ℕ
square v = (v * v) % 997

-- what a seed and two numbers draw, from 0 to 996
abbrev pub drawn : (seed a b : ℕ) → ℕ
drawn seed a b = square ((seed + 31 * a + 101 * b) % 997)

-- ---- a module, by its number

abbrev pub is_below : (seed number : ℕ) → Bool
is_below seed number = nat_lt 1 number && nat_eq (drawn seed number 0 % 4) 0

-- the length of a scan chain
abbrev pub chain_length : (seed number chain : ℕ) → ℕ
chain_length seed number chain = 10 + drawn seed number (5 + chain) % 90

abbrev pub chain_lengths : (seed number : ℕ) → List ℕ
chain_lengths seed number = map (chain_length seed number) (range_with_len 0 (drawn seed number 4 % 10))

-- the test over the wires that uses the scan chains
abbrev pub scan_test : (seed number : ℕ) → Test
scan_test seed number = record {
  number = 1;
  scan = true;
  tam = true;
  patterns = 1 + drawn seed number 20 % 200;
  power = 10 + drawn seed number 21 % 90;
}

abbrev pub has_self_test : (seed number : ℕ) → Bool
has_self_test seed number = nat_eq (drawn seed number 22 % 5) 0

abbrev pub self_test : (seed number : ℕ) → Test
self_test seed number = record {
  number = 2;
  scan = false;
  tam = false;
  patterns = 1 + 20 * drawn seed number 23;
  power = 5;
}

abbrev pub tests_of : (seed number : ℕ) → List Test
tests_of seed number = scan_test seed number ∷ (if has_self_test seed number then self_test seed number ∷ [] else [])

abbrev pub made_module : (seed number : ℕ) → ModuleValue
made_module seed number = record {
  number = number;
  name = [];
  level = if is_below seed number then 2 else 1;
  inputs = drawn seed number 1 % 100;
  outputs = drawn seed number 2 % 100;
  bidirs = drawn seed number 3 % 10;
  setup = 0;
  chains = chain_lengths seed number;
  tests = tests_of seed number;
}

-- ---- the chip

-- the chip's own module, of level 0 and with nothing else
abbrev pub top_module : ModuleValue
top_module = record {
  number = 0;
  name = [];
  level = 0;
  inputs = 0;
  outputs = 0;
  bidirs = 0;
  setup = 0;
  chains = [];
  tests = [];
}

-- `n` made modules, below the chip's own
abbrev pub made_chip : (n seed : ℕ) → SocValue
made_chip n seed = record {
  name = codes "sample";
  power_flag = true;
  xy_flag = false;
  keys = 0 ∷ range_with_len 1 n;
  modules = top_module ∷ map (made_module seed) (range_with_len 1 n);
}
