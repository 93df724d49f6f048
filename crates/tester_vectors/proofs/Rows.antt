-- The definitions computed on small chips, against texts that were found by hand.
use Rattle.std.proofs.Common.{◌≡◌, ℕ, List, [], ◌∷◌, true, false, refl, codes, nat_eq, if◌then◌else◌, flat_map}
use Rattle.std.specs.List.{range_with_len}
use Rattle.soc_model.specs.Chips.{SocValue, live_from}
use Rattle.plan_model.specs.Operations.{ops_of}
use Rattle.plan_model.specs.Plans.{PlanValue, OfModule, planned, planned_test}
use Rattle.plan_model.specs.Runs.{carried}
use Rattle.vector_lines.specs.Made.{made_bit, made_content}
use Rattle.tester_vectors.specs.Marks.{response_digits, Marks}
use Rattle.tester_vectors.specs.VectorText.{cycle_line}

-- one input terminal, one output terminal, and one test
chip : (setup patterns : ℕ) → SocValue
chip setup p = record {
  name = [];
  power_flag = false;
  xy_flag = false;
  keys = 1 ∷ [];
  modules = record { number = 1; name = []; level = 1; inputs = 1; outputs = 1; bidirs = 0; setup = setup; chains = []; tests = record { number = 1; scan = true; tam = true; patterns = p; power = 0 } ∷ [] } ∷ [];
}

plan : (cycles : ℕ) → PlanValue
plan cycles = record {
  buses = record { width = 1; modules = 1 ∷ [] } ∷ [];
  wrappers = record { «module» = 1; scan = true; chains = record { ins = 1; scans = []; outs = 1 } ∷ [] } ∷ [];
  starts = (record { «module» = 1; test = 1 }, 0) ∷ [];
  cycles = cycles;
  bound = record { cycles = cycles; why = OfModule 1 };
}

-- the lines of the cycles, with marks and with the digits of the response bits
marked_lines : Marks → (setup patterns cycles seed : ℕ) → List ℕ
marked_lines marks setup p cycles seed = flat_map (cycle_line (made_content (chip setup p) seed) marks (planned (chip setup p) (plan cycles)) 1) (range_with_len 0 cycles)

lines : (setup patterns cycles seed : ℕ) → List ℕ
lines setup p cycles seed = marked_lines (response_digits (made_content (chip setup p) seed)) setup p cycles seed

one_pattern : lines 0 1 3 0 ≡ codes "1 -\n0 -\n0 0\n"
unfolding marked_lines lines chip plan cycle_line made_content made_bit live_from planned planned_test ops_of carried
one_pattern = refl

two_patterns : lines 0 2 5 5 ≡ codes "1 -\n0 -\n1 0\n0 -\n0 1\n"
unfolding marked_lines lines chip plan cycle_line made_content made_bit live_from planned planned_test ops_of carried
two_patterns = refl

two_cycles_of_setup : lines 2 1 5 0 ≡ codes "0 -\n0 -\n1 -\n0 -\n0 0\n"
unfolding marked_lines lines chip plan cycle_line made_content made_bit live_from planned planned_test ops_of carried
two_cycles_of_setup = refl

-- the response bit of the first pattern isn't known
one_unknown : marked_lines (λ id k x. if nat_eq k 1 then 45 else 49) 0 2 5 5 ≡ codes "1 -\n0 -\n1 -\n0 -\n0 1\n"
unfolding marked_lines chip plan cycle_line made_content made_bit live_from planned planned_test ops_of carried
one_unknown = refl
