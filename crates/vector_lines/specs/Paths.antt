-- How the machine of a whole chip keeps what it steps: made bits, and chains.
use Rattle.std.specs.Prelude.{◌≡◌, ℕ, ◌+◌, ◌<◌, ◌≤◌, Bool, true, false, Option, Some, None, List, length, get_or, slice_index, nat_lt}
use Rattle.plan_model.specs.Cells.{Cell, In, is_loaded, is_read, in_length, out_length}
use Rattle.vector_lines.specs.Places.{response_place, stimulus_place}
use Rattle.vector_lines.specs.declared.path.Path.{Path}

-- what the cells of each chain of a wrapper keep: those that are loaded stand first, and those that are read last
pub record IsChain (cells : List Cell) : Type 0 where
  pub in_fit : in_length cells ≤ length cells
  pub out_fit : out_length cells ≤ length cells
  pub loaded : (r : ℕ) → r < in_length cells → is_loaded (get_or cells r (In 0)) ≡ true
  pub unloaded : (r : ℕ) → in_length cells ≤ r → r < length cells → is_loaded (get_or cells r (In 0)) ≡ false
  pub unread : (r : ℕ) → r + out_length cells < length cells → is_read (get_or cells r (In 0)) ≡ false
  pub read : (r : ℕ) → length cells ≤ r + out_length cells → r < length cells → is_read (get_or cells r (In 0)) ≡ true

-- A path is a chain of these cells, by the numbers of the bits that they load and answer.
pub record IsPath (inputs : ℕ) (lengths : List ℕ) (cells : List Cell) (p : Path) : Type 0 where
  pub chain : IsChain cells
  pub long : p.cells ≡ length cells
  pub loads_long : length p.loads ≡ in_length cells
  pub load : (r : ℕ) → r < in_length cells → slice_index p.loads r ≡ stimulus_place inputs lengths (get_or cells r (In 0))
  pub answers_long : length p.answers ≡ out_length cells
  pub answer : (r q : ℕ) → r + out_length cells ≡ length cells + q → r < length cells →
      slice_index p.answers q ≡ response_place lengths (get_or cells r (In 0))

-- what a path loads, by bits that are known by their numbers
abbrev pub numbered_stimulus : (bits : ℕ → ℕ → Bool) (inputs : ℕ) (lengths : List ℕ) → ℕ → Cell → Bool
numbered_stimulus bits inputs lengths k x = bits k (stimulus_place inputs lengths x)

-- what stands where it answers, by marks that are known by their numbers
abbrev pub numbered_marks : (marks : ℕ → ℕ → ℕ) (lengths : List ℕ) → ℕ → Cell → ℕ
numbered_marks marks lengths k x = marks k (response_place lengths x)

-- a chain shows a response bit, some Shifts behind a capture
abbrev pub is_answered : List Cell → Option (ℕ × ℕ) → Bool
is_answered cells None = false
is_answered cells (Some b) = nat_lt b.0 (out_length cells)
