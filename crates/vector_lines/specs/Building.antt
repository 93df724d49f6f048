-- Chains that are made, and their cells' numbers.
use Rattle.std.specs.Prelude.{◌≡◌, ℕ, ◌+◌, Some, List, [], length, take, get_or, slice_get, slice_index}
use Rattle.std.specs.List.{sum, range_with_len}
use Rattle.plan_model.specs.Cells.{Cell}
use Rattle.vector_lines.specs.declared.path.Path.{Path}
use Rattle.vector_lines.specs.Paths.{IsPath}

-- the numbers of the cells of a scan chain, counted from `base` on by scan chain and place
abbrev pub flop_numbers : (base : ℕ) (lengths : List ℕ) → ℕ → List ℕ
flop_numbers base lengths c = range_with_len (base + sum (take c lengths)) (slice_index lengths c)

-- the chains with these cells
pub record ArePaths (inputs : ℕ) (lengths : List ℕ) (chains : List (List Cell)) (n : ℕ) (paths : List Path) : Type 0 where
  pub long : length paths ≡ n
  pub each : (j : ℕ) (p : Path) → slice_get paths j ≡ Some p → IsPath inputs lengths (get_or chains j []) p
