-- Which bit of a response is read of a planned test at a cycle on a wire, by counting back to the last Capture.
use Rattle.std.specs.Prelude.{ℕ, ◌-◌, Option, None, Some, List, option_map, reverse, take, slice_get, nat_lt, if◌then◌else◌}
use Rattle.plan_model.specs.Cells.{Cell, out_length}
use Rattle.plan_model.specs.Operations.{ahead}
use Rattle.plan_model.specs.Plans.{PlannedTest}
use Rattle.plan_model.specs.Runs.{chain_at}

-- how many Shifts lie between the last Capture and a cycle, and which Capture that is, where nothing but Shifts lies there
abbrev pub since_capture : PlannedTest → (cycle : ℕ) → Option (ℕ × ℕ)
since_capture t c = ahead (reverse (take (c - t.start) t.operations))

-- the pattern and the cell whose bit a chain shows: the cell stands as many places from the end as there were Shifts since the
-- capture, within the out-length
abbrev pub bit_shown : List Cell → Option (ℕ × ℕ) → Option (ℕ × Cell)
bit_shown cells None = None
bit_shown cells (Some since) =
    if nat_lt since.0 (out_length cells) then option_map (λ x. (since.1, x)) (slice_get (reverse cells) since.0) else None

-- the pattern and the cell whose bit of the response is read of a test on a wire that it uses
abbrev pub read_of : (cycle wire : ℕ) → PlannedTest → Option (ℕ × Cell)
read_of c w t = bit_shown (chain_at t (w - t.first_wire)) (since_capture t c)
