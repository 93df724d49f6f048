-- Numbers of bits as runs of numbers one after another, walks over them, and the made bits of one pattern by their numbers.
use Rattle.std.specs.Prelude.{◌≡◌, ℕ, ◌+◌, ◌*◌, ◌%◌, ◌^◌, ◌<◌, ◌≤◌, Bool, List, ◌∷◌, ◌++◌, drop}
use Rattle.std.specs.List.{flat_map, range_with_len}
use Rattle.vector_lines.specs.Made.{has_odd_square}
use Rattle.vector_lines.specs.declared.made.Line.{Line}
use Rattle.vector_lines.specs.declared.numbers.NumberRun.{NumberRun}
use Rattle.vector_lines.specs.declared.numbers.Walk.{Walk}

-- the numbers of a run, and of all runs
abbrev pub run_numbers : NumberRun → List ℕ
run_numbers r = range_with_len r.from r.count

abbrev pub all_numbers : List NumberRun → List ℕ
all_numbers runs = flat_map run_numbers runs

-- a run has a number, and all are a machine's numbers
pub record IsFull (r : NumberRun) : Type 0 where
  pub some : 1 ≤ r.count
  pub fits : r.from + r.count < 2 ^ 64

-- what the bit of a number is made from, and the bit
abbrev pub line_value : Line → ℕ → ℕ
line_value l n = (l.first + l.step * n) % 997

abbrev pub line_bit : Line → ℕ → Bool
line_bit l n = has_odd_square (line_value l n)

-- it is the value of some number, and `count` numbers from that one on are a machine's
pub record IsFirstValue (values : ℕ → ℕ) (value count : ℕ) : Type 0 where
  pub number : ℕ
  pub is : value ≡ values number
  pub fits : number + count < 2 ^ 64

-- the walk has these numbers before it, and the value of the first one
pub record IsWalk (runs : List NumberRun) (values : ℕ → ℕ) (w : Walk) (rest : List ℕ) : Type 0 where
  pub number : ℕ
  pub value : w.value ≡ values number
  pub fits : number + w.left < 2 ^ 64
  pub rest_is : rest ≡ range_with_len number w.left ++ all_numbers (drop w.run runs)

-- there is a number before it
pub record HasNext (runs : List NumberRun) (values : ℕ → ℕ) (w : Walk) : Type 0 where
  pub next : ℕ
  pub more : List ℕ
  pub is : IsWalk runs values w (next ∷ more)
