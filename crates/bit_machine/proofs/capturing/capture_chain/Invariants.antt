use Rattle.std.proofs.Common.{◌≡◌, ℕ, ◌+◌, ◌++◌, take, slice_index, sum_by, flat_map}
use Rattle.plan_model.specs.Cells.{in_cells, flops}
use Rattle.plan_model.specs.Runs.{captured}
use Rattle.bit_machine.specs.Sessions.{response_bit}
use Rattle.bit_machine.proofs.capturing.capture_chain.Given as goal

abbrev pub invariant-loop-scan : goal.invariant-loop-scan
invariant-loop-scan l =
    (l.at ≡ l.chain.ins + sum_by (slice_index l.layout.lengths.items) (take l.scan-index l.chain.scans.items))
    × ((i : ℕ) → l.bits ≡ captured (response_bit l.layout.lengths.items l.response) (in_cells i l.chain.ins ++ flat_map (flops l.layout.lengths.items) (take l.scan-index l.chain.scans.items)) l.initial.bits)
