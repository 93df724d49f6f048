-- How many bits a stimulus and a response have.
use Rattle.std.proofs.Common.{◌≡◌, ℕ, ◌+◌, ◌<◌, ◌≤◌, Bool, true, false, List, [], length, get_or, Option, None, Some, refl, sym, ◌∙◌, ap, arith, slice_get, slice_index, sum, sum_by, count_by}
use Rattle.std.specs.List.{range_with_len}
use Rattle.std.proofs.lemmas.List.Sums.{length-filter}
use Rattle.std.proofs.lemmas.Option.{slice_get_read, slice_get_within}
use Rattle.soc_model.specs.declared.Test.{Test}
use Rattle.soc_model.specs.declared.TestId.{TestId}
use Rattle.soc_model.specs.Chips.{ModuleValue, SocValue}
use Rattle.soc_model.specs.Lookups.{test_places}
use Rattle.plan_model.specs.Cells.{is_loaded, is_read, scan_lengths, cells_of, stimulus_cells, response_cells}
use Rattle.plan_model.proofs.LowerTimes.{count_cells, loaded_counts, read_counts, sum_places}
use Rattle.test_data.specs.declared.misfits.Wanted.{Wanted}
use Rattle.test_data.specs.Suiting.{wanted_for, wanted_by, tam_only, test_in, test_at}

pub stimulus_length : (m : ModuleValue) (scan : Bool) → m.inputs + m.bidirs + sum (scan_lengths m scan) ≡ length (stimulus_cells m scan)
stimulus_length m scan =
    let filtered : length (stimulus_cells m scan) ≡ count_by is_loaded (cells_of m scan) = length-filter is_loaded (cells_of m scan) in
    let cells : count_by is_loaded (cells_of m scan) ≡ (m.inputs + m.bidirs) + sum_by (slice_index (scan_lengths m scan)) (range_with_len 0 (length (scan_lengths m scan))) + 0 =
    count_cells is_loaded true false loaded_counts (scan_lengths m scan) (range_with_len 0 (length (scan_lengths m scan))) 0 (m.inputs + m.bidirs) 0 (m.outputs + m.bidirs) in
    let places : sum_by (slice_index (scan_lengths m scan)) (range_with_len 0 (length (scan_lengths m scan))) ≡ sum (scan_lengths m scan) = sum_places [] (scan_lengths m scan) in
    omega arith

pub response_length : (m : ModuleValue) (scan : Bool) → sum (scan_lengths m scan) + (m.outputs + m.bidirs) ≡ length (response_cells m scan)
response_length m scan =
    let filtered : length (response_cells m scan) ≡ count_by is_read (cells_of m scan) = length-filter is_read (cells_of m scan) in
    let cells : count_by is_read (cells_of m scan) ≡ 0 + sum_by (slice_index (scan_lengths m scan)) (range_with_len 0 (length (scan_lengths m scan))) + (m.outputs + m.bidirs) =
    count_cells is_read false true read_counts (scan_lengths m scan) (range_with_len 0 (length (scan_lengths m scan))) 0 (m.inputs + m.bidirs) 0 (m.outputs + m.bidirs) in
    let places : sum_by (slice_index (scan_lengths m scan)) (range_with_len 0 (length (scan_lengths m scan))) ≡ sum (scan_lengths m scan) = sum_places [] (scan_lengths m scan) in
    omega arith

-- ---- what a chip wants of a test's data

abbrev with_bits : (patterns load unload : ℕ) → Wanted
with_bits patterns load unload = record { patterns = patterns; load = load; unload = unload }

pub wanted_are : (m : ModuleValue) (t : Test) (flops inputs outputs : ℕ) → flops ≡ sum (scan_lengths m t.scan) → inputs ≡ m.inputs + m.bidirs → outputs ≡ m.outputs + m.bidirs →
    with_bits t.patterns (inputs + flops) (flops + outputs) ≡ wanted_for m t
wanted_are m t flops inputs outputs is_flops is_inputs is_outputs =
    let load : inputs + flops ≡ length (stimulus_cells m t.scan) = omega (arith, stimulus_length m t.scan, is_flops, is_inputs) in
    let unload : flops + outputs ≡ length (response_cells m t.scan) = omega (arith, response_length m t.scan, is_flops, is_outputs) in
    ap (λ (l : ℕ). with_bits t.patterns l (flops + outputs)) load ∙ ap (λ (u : ℕ). with_bits t.patterns (length (stimulus_cells m t.scan)) u) unload

-- no test stands past the end
pub past_end : (m : ModuleValue) (ts : List Test) (at : ℕ) → length ts ≤ at → None ≡ tam_only m (slice_get ts at)
past_end m ts at past = by (slice_get ts at) refl
  where
    by : (o : Option Test) → slice_get ts at ≡ o → None ≡ tam_only m (slice_get ts at)
    by None e = sym (ap (tam_only m) e)
    by (Some t) e = let inside : at < length ts = slice_get_within ts at t e in absurd (omega (arith, inside, past))

-- the test at a place
pub test_here : (m : ModuleValue) (ts : List Test) (at : ℕ) (t : Test) → at < length ts → t ≡ get_or ts at t → tam_only m (Some t) ≡ tam_only m (slice_get ts at)
test_here m ts at t within read = sym (ap (tam_only m) (slice_get_read ts (length ts) at t refl within read))

-- by its name
pub unnamed : (soc : SocValue) (id : TestId) → test_places soc id ≡ None → None ≡ wanted_by soc id
unfolding wanted_by
unnamed soc id none = sym (ap (test_at soc) none)

pub named : (soc : SocValue) (id : TestId) (p n : ℕ) (m : ModuleValue) → test_places soc id ≡ Some (p, n) → slice_get soc.modules p ≡ Some m → tam_only m (slice_get m.tests n) ≡ wanted_by soc id
unfolding wanted_by
named soc id p n m found at = sym (ap (test_at soc) found ∙ ap (λ (o : Option ModuleValue). test_in o n) at)
