-- The operations of a test, one a cycle.
use Rattle.std.specs.Prelude.{ℕ, suc, Option, Some, None, List, [], ◌∷◌, ◌++◌, replicate, max, nat_lt, if◌then◌else◌}
use Rattle.std.specs.List.{flat_map, range_with_len}

-- one cycle of a test: at rest before the first Shift, one place on, a capture of a pattern, or a cycle of a self test
pub data Operation : Type 0 where
  Setup : Operation
  Shift : Operation
  Capture : (pattern : ℕ) → Operation
  SelfTest : Operation

-- Capture `k` of `p`, and the Shifts after it
abbrev pub capture_and_shifts : (between last p k : ℕ) → List Operation
capture_and_shifts between last p k = Capture k ∷ replicate (if nat_lt k p then between else last) Shift

-- the operations of a test of `p` patterns over the wires
unfoldable pub ops_of : (setup si so p : ℕ) → List Operation
ops_of setup si so p =
    replicate setup Setup ++ replicate si Shift ++ flat_map (capture_and_shifts (max si so) so p) (range_with_len 1 p)

-- the number of Shifts before the next Capture, and its pattern
abbrev pub ahead : List Operation → Option (ℕ × ℕ)
ahead [] = None
ahead (Shift ∷ ops) = shifted_by_one (ahead ops) where
  shifted_by_one : Option (ℕ × ℕ) → Option (ℕ × ℕ)
  shifted_by_one None = None
  shifted_by_one (Some a) = Some (suc a.0, a.1)
ahead (Capture k ∷ ops) = Some (0, k)
ahead (Setup ∷ ops) = None
ahead (SelfTest ∷ ops) = None
