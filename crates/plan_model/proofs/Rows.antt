-- The definitions computed on small chips, against values that were found by hand.
use Rattle.std.proofs.Common.{◌≡◌, ℕ, zero, suc, ◌+◌, true, false, Bool, Some, None, List, [], ◌∷◌, length, map, refl}
use Rattle.soc_model.specs.declared.Test.{Test}
use Rattle.soc_model.specs.declared.TestId.{TestId}
use Rattle.soc_model.specs.Chips.{ModuleValue, SocValue, live_from}
use Rattle.plan_model.specs.Cells.{Cell, In, Flop, Out, ChainValue, chain_cells, stimulus_cells, response_cells}
use Rattle.plan_model.specs.Operations.{Setup, Shift, Capture, ops_of}
use Rattle.plan_model.specs.Plans.{PlanValue, LimitsValue, OfModule, OfPair, OfChain, OfArea, OfPower, OfForced, planned, planned_test, operations_of, end_of, power_at}
use Rattle.plan_model.specs.Runs.{Content, state_at, run_with, first_state, step, carried, shown}
use Rattle.plan_model.specs.Bounds.{sum_below, lower_time, lower_tam_time, least_energy}
use Rattle.plan_model.specs.Certificates.{certificate_value, need_of}

-- ---- the chips

test : (number patterns : ℕ) → Test
test n p = record { number = n; scan = true; tam = true; patterns = p; power = 0 }

self_test : (patterns power : ℕ) → Test
self_test p w = record { number = 1; scan = false; tam = false; patterns = p; power = w }

-- a module with nothing but its level and tests
bare_module : (number level : ℕ) → List Test → ModuleValue
bare_module n level tests = record { number = n; name = []; level = level; inputs = 0; outputs = 0; bidirs = 0; setup = 0; chains = []; tests = tests }

chip : List ℕ → List ModuleValue → SocValue
chip keys modules = record { name = []; power_flag = false; xy_flag = false; keys = keys; modules = modules }

id : ℕ → TestId
id m = record { «module» = m; test = 1 }

chain : ℕ → List ℕ → ℕ → ChainValue
chain ins scans outs = record { ins = ins; scans = scans; outs = outs }

limits : ℕ → LimitsValue
limits w = record { wires = w; power = None; before = []; budget = 0; profiles = [] }

-- two inputs, three outputs and scan chains of 4 and 2
module_x : ℕ → ModuleValue
module_x n = record { number = n; name = []; level = 1; inputs = 2; outputs = 3; bidirs = 0; setup = 0; chains = 4 ∷ 2 ∷ []; tests = test 1 2 ∷ [] }

soc_xx : SocValue
soc_xx = chip (1 ∷ 2 ∷ []) (module_x 1 ∷ module_x 2 ∷ [])

plan_xx : PlanValue
plan_xx = record {
  buses = record { width = 1; modules = 1 ∷ [] } ∷ record { width = 1; modules = 2 ∷ [] } ∷ [];
  wrappers = record { «module» = 1; scan = true; chains = chain 2 (0 ∷ 1 ∷ []) 3 ∷ [] } ∷ record { «module» = 2; scan = true; chains = chain 2 (0 ∷ 1 ∷ []) 3 ∷ [] } ∷ [];
  starts = (id 1, 0) ∷ (id 2, 0) ∷ [];
  cycles = 28;
  bound = record { cycles = 28; why = OfArea };
}

-- ---- operations and times

operations : ops_of 1 1 2 2 ≡ Setup ∷ Shift ∷ Capture 1 ∷ Shift ∷ Shift ∷ Capture 2 ∷ Shift ∷ Shift ∷ []
unfolding ops_of
operations = refl

-- the lengths 8 and 9; nothing to shift in; nothing to shift out; more in than out
lengths_of_operations : (length (ops_of 0 8 9 2) ∷ length (ops_of 0 0 2 2) ∷ length (ops_of 0 2 0 2) ∷ length (ops_of 0 5 1 2) ∷ length (ops_of 2 1 1 1) ∷ []) ≡ 28 ∷ 6 ∷ 6 ∷ 13 ∷ 5 ∷ []
unfolding ops_of
lengths_of_operations = refl

-- module X in one, two and three chains, in the mode of its test
time_over : List ChainValue → ℕ
time_over chains = length (operations_of (module_x 1) (test 1 2) (chain_cells (module_x 1) true chains))

times_scan : (time_over (chain 2 (0 ∷ 1 ∷ []) 3 ∷ []) ∷ time_over (chain 0 (0 ∷ []) 1 ∷ chain 2 (1 ∷ []) 2 ∷ []) ∷ time_over (chain 0 (0 ∷ []) 0 ∷ chain 2 (1 ∷ []) 2 ∷ chain 0 [] 1 ∷ []) ∷ []) ≡ 28 ∷ 16 ∷ 14 ∷ []
unfolding time_over module_x test chain ops_of
times_scan = refl

-- a second test, of one pattern over the terminals alone
terminals_test : Test
terminals_test = record { number = 2; scan = false; tam = true; patterns = 1; power = 0 }

time_over_terminals : List ChainValue → ℕ
time_over_terminals chains = length (operations_of (module_x 1) terminals_test (chain_cells (module_x 1) false chains))

times_terminals : (time_over_terminals (chain 2 [] 3 ∷ []) ∷ time_over_terminals (chain 1 [] 2 ∷ chain 1 [] 1 ∷ []) ∷ time_over_terminals (chain 1 [] 1 ∷ chain 1 [] 1 ∷ chain 0 [] 1 ∷ []) ∷ []) ≡ 6 ∷ 4 ∷ 3 ∷ []
unfolding time_over_terminals terminals_test module_x test chain ops_of
times_terminals = refl

ends : map end_of (planned soc_xx plan_xx) ≡ 28 ∷ 28 ∷ []
unfolding soc_xx module_x test chip chain id plan_xx ops_of live_from planned planned_test
ends = refl

-- ---- cells

-- two inputs and two outputs, of which one each is bidirectional, and scan chains of 2 and 1
module_of_five : ModuleValue
module_of_five = record { number = 1; name = []; level = 1; inputs = 1; outputs = 1; bidirs = 1; setup = 0; chains = 2 ∷ 1 ∷ []; tests = [] }

stimulus_order : stimulus_cells module_of_five true ≡ In 0 ∷ In 1 ∷ Flop 0 0 ∷ Flop 0 1 ∷ Flop 1 0 ∷ []
unfolding module_of_five
stimulus_order = refl

response_order : response_cells module_of_five true ≡ Flop 0 0 ∷ Flop 0 1 ∷ Flop 1 0 ∷ Out 0 ∷ Out 1 ∷ []
unfolding module_of_five
response_order = refl

-- input and output cells are dealt in order, scan chains as they are listed
dealt_cells : chain_cells module_of_five true (chain 1 (1 ∷ 0 ∷ []) 0 ∷ chain 1 [] 2 ∷ []) ≡ (In 0 ∷ Flop 1 0 ∷ Flop 0 0 ∷ Flop 0 1 ∷ []) ∷ (In 1 ∷ Out 0 ∷ Out 1 ∷ []) ∷ []
unfolding module_of_five chain
dealt_cells = refl

-- ---- runs

-- one input, one output and two cycles of setup
soc_one : SocValue
soc_one = chip (1 ∷ []) (record { number = 1; name = []; level = 1; inputs = 1; outputs = 1; bidirs = 0; setup = 2; chains = []; tests = test 1 1 ∷ [] } ∷ [])

plan_of_one : List ChainValue → PlanValue
plan_of_one chains = record {
  buses = record { width = 1; modules = 1 ∷ [] } ∷ [];
  wrappers = record { «module» = 1; scan = true; chains = chains } ∷ [];
  starts = (id 1, 0) ∷ [];
  cycles = 5;
  bound = record { cycles = 5; why = OfModule 1 };
}

content_one : Content
content_one = record { initial = λ t x. false; stimulus = λ t k x. true; response = λ t k x. true }

drive : map (λ c. carried content_one (planned soc_one (plan_of_one (chain 1 [] 1 ∷ []))) c 0) (0 ∷ 1 ∷ 2 ∷ 3 ∷ 4 ∷ []) ≡ false ∷ false ∷ true ∷ false ∷ false ∷ []
unfolding soc_one chip chain id test plan_of_one content_one ops_of live_from planned planned_test carried
drive = refl

read_out : shown (planned soc_one (plan_of_one (chain 1 [] 1 ∷ []))) (state_at content_one (planned soc_one (plan_of_one (chain 1 [] 1 ∷ []))) 4) 4 0 ≡ true
unfolding soc_one chip chain id test plan_of_one content_one ops_of live_from planned planned_test carried shown run_with first_state step
read_out = refl

-- two inputs and three outputs: the deepest cell is loaded first, behind the zeros of a block that is longer than the chain
soc_two : SocValue
soc_two = chip (1 ∷ []) (record { number = 1; name = []; level = 1; inputs = 2; outputs = 3; bidirs = 0; setup = 0; chains = []; tests = test 1 2 ∷ [] } ∷ [])

is_first : Cell → Bool
is_first (In zero) = true
is_first (In (suc k)) = false
is_first (Flop c i) = false
is_first (Out k) = false

content_two : Content
content_two = record { initial = λ t x. true; stimulus = λ t k x. is_first x; response = λ t k x. false }

deepest_first : map (λ c. carried content_two (planned soc_two (plan_of_one (chain 2 [] 3 ∷ []))) c 0) (0 ∷ 1 ∷ 2 ∷ 3 ∷ 4 ∷ 5 ∷ 6 ∷ 7 ∷ []) ≡ false ∷ true ∷ false ∷ false ∷ false ∷ true ∷ false ∷ false ∷ []
unfolding soc_two is_first chip chain id test plan_of_one content_two ops_of live_from planned planned_test carried
deepest_first = refl

-- ---- lower times and certificates

lower_times : map (lower_tam_time soc_xx 0) (1 ∷ 2 ∷ 3 ∷ 4 ∷ []) ≡ 28 ∷ 16 ∷ 14 ∷ 14 ∷ []
unfolding soc_xx module_x test chip lower_time ops_of live_from
lower_times = refl

values : map (certificate_value soc_xx (limits 2)) (OfModule 2 ∷ OfArea ∷ OfForced (1 ∷ 2 ∷ []) ∷ OfForced [] ∷ OfChain [] ∷ OfPower ∷ []) ≡ 16 ∷ 28 ∷ 32 ∷ 0 ∷ 0 ∷ 0 ∷ []
unfolding certificate_value soc_xx module_x test chip limits lower_time ops_of live_from sum_below
values = refl

-- below 28 cycles two wires, below 32 one, and below 1 more than there are
needs : (need_of soc_xx 2 28 1 ∷ need_of soc_xx 2 28 2 ∷ need_of soc_xx 2 32 1 ∷ need_of soc_xx 2 1 1 ∷ []) ≡ 2 ∷ 2 ∷ 1 ∷ 3 ∷ []
unfolding soc_xx module_x test chip lower_time ops_of live_from
needs = refl

-- The areas are added and then divided once: two modules of three cycles on one wire each.
soc_of_three_cycles : SocValue
soc_of_three_cycles =
    let m = λ (n : ℕ). record (module_x n) { inputs = 1; outputs = 1; chains = []; tests = test 1 1 ∷ [] } in
    chip (1 ∷ 2 ∷ []) (m 1 ∷ m 2 ∷ [])

area_once : certificate_value soc_of_three_cycles (limits 2) OfArea ≡ 3
unfolding certificate_value soc_of_three_cycles module_x test chip limits lower_time ops_of live_from sum_below
area_once = refl

-- a module and its direct parent, and no further one
soc_of_levels : SocValue
soc_of_levels = chip (1 ∷ 2 ∷ 3 ∷ []) (bare_module 1 1 (self_test 5 0 ∷ []) ∷ bare_module 2 2 (self_test 5 0 ∷ []) ∷ bare_module 3 3 (self_test 5 0 ∷ []) ∷ [])

pairs : map (certificate_value soc_of_levels (limits 1)) (OfPair 1 ∷ OfPair 2 ∷ OfPair 3 ∷ OfPair 4 ∷ []) ≡ 0 ∷ 10 ∷ 10 ∷ 0 ∷ []
unfolding certificate_value soc_of_levels bare_module self_test chip limits lower_time live_from
pairs = refl

-- a chain of precedences
soc_a : SocValue
soc_a = chip (1 ∷ 2 ∷ []) (bare_module 1 1 (self_test 5 0 ∷ []) ∷ bare_module 2 1 (self_test 7 0 ∷ []) ∷ [])

chain_value : certificate_value soc_a (limits 1) (OfChain (id 1 ∷ id 2 ∷ [])) ≡ 12
unfolding certificate_value soc_a bare_module self_test chip id limits lower_time live_from
chain_value = refl

-- ---- power

-- self tests of 5 cycles with powers 3 and 4; the first draws 2 from its fourth cycle on
soc_of_powers : SocValue
soc_of_powers = chip (1 ∷ 2 ∷ []) (bare_module 1 1 (self_test 5 3 ∷ []) ∷ bare_module 2 1 (self_test 5 4 ∷ []) ∷ [])

limits_of_powers : LimitsValue
limits_of_powers = record { wires = 2; power = Some 6; before = []; budget = 0; profiles = record { test = id 1; steps = (0, 3) ∷ (4, 2) ∷ [] } ∷ [] }

energy : (least_energy soc_of_powers limits_of_powers ∷ certificate_value soc_of_powers limits_of_powers OfPower ∷ []) ≡ 34 ∷ 6 ∷ []
unfolding certificate_value soc_of_powers bare_module self_test chip id limits_of_powers lower_time live_from sum_below
energy = refl

plan_of_powers : ℕ → PlanValue
plan_of_powers start = record { buses = []; wrappers = []; starts = (id 1, 0) ∷ (id 2, start) ∷ []; cycles = start + 5; bound = record { cycles = 6; why = OfPower } }

powers_at : (map (power_at limits_of_powers (planned soc_of_powers (plan_of_powers 4))) (0 ∷ 3 ∷ 4 ∷ 5 ∷ 9 ∷ []) ≡ 3 ∷ 3 ∷ 6 ∷ 4 ∷ 0 ∷ []) × (power_at limits_of_powers (planned soc_of_powers (plan_of_powers 3)) 3 ≡ 7)
unfolding soc_of_powers bare_module self_test chip id limits_of_powers plan_of_powers live_from planned planned_test
powers_at = (refl, refl)
