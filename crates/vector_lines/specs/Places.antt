-- Where the bits of a test's cells stand in a stimulus and in a response, and where a test stands in its module.
use Rattle.std.specs.Prelude.{ℕ, ◌+◌, List, take, nat_eq}
use Rattle.std.specs.List.{sum, position_or_len}
use Rattle.soc_model.specs.declared.Test.{Test}
use Rattle.soc_model.specs.Chips.{LiveTest}
use Rattle.plan_model.specs.Cells.{Cell, In, Flop, Out}

-- where a cell's bit stands in a stimulus: the input cells by number, then the cells of the scan chains by scan chain and place
abbrev pub stimulus_place : (inputs : ℕ) (lengths : List ℕ) → Cell → ℕ
stimulus_place inputs lengths (In k) = k
stimulus_place inputs lengths (Flop c i) = inputs + (sum (take c lengths) + i)
stimulus_place inputs lengths (Out k) = 0

-- where a cell's bit stands in a response: the cells of the scan chains by scan chain and place, then the output cells
abbrev pub response_place : (lengths : List ℕ) → Cell → ℕ
response_place lengths (In k) = 0
response_place lengths (Flop c i) = sum (take c lengths) + i
response_place lengths (Out k) = sum lengths + k

-- the place of a live test among all tests of its module
abbrev pub test_place : LiveTest → ℕ
test_place l = position_or_len (λ (t : Test). nat_eq t.number l.test.number) l.core.tests
