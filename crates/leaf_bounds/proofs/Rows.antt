-- The definitions computed on small chips, against values that were found by hand.
use Rattle.std.proofs.Common.{◌≡◌, ℕ, true, false, Some, None, List, [], ◌∷◌, length, refl}
use Rattle.soc_model.specs.declared.Test.{Test}
use Rattle.soc_model.specs.declared.TestId.{TestId}
use Rattle.soc_model.specs.Chips.{ModuleValue, SocValue, live_from}
use Rattle.plan_model.specs.Operations.{ops_of}
use Rattle.plan_model.specs.Plans.{LimitsValue}
use Rattle.plan_model.specs.Bounds.{sum_below}
use Rattle.proof_facts.specs.Packed.{counting, averaging, beside, packed, packed_time, packed_tam_time}
use Rattle.proof_facts.specs.Exclusions.{leads, excludes}
use Rattle.plan_model.specs.Proofs.{OfTurns, OfPower, WeightsValue}
use Rattle.leaf_bounds.specs.Cases.{interval, Case, root_case}
use Rattle.leaf_bounds.specs.Lists.{least_together, names_exclude, counted}
use Rattle.leaf_bounds.specs.Leaves.{slots_of, cost_of_all, worth_of_cycle, leaf_shows}

-- ---- the chips

test : (number patterns : ℕ) → Test
test n p = record { number = n; scan = true; tam = true; patterns = p; power = 0 }

self_test : (patterns power : ℕ) → Test
self_test p w = record { number = 1; scan = false; tam = false; patterns = p; power = w }

-- a module with nothing but its tests
bare_module : (number : ℕ) → List Test → ModuleValue
bare_module n tests = record { number = n; name = []; level = 1; inputs = 0; outputs = 0; bidirs = 0; setup = 0; chains = []; tests = tests }

chip : List ℕ → List ModuleValue → SocValue
chip keys modules = record { name = []; power_flag = false; xy_flag = false; keys = keys; modules = modules }

id : ℕ → TestId
id m = record { «module» = m; test = 1 }

limits : ℕ → LimitsValue
limits w = record { wires = w; power = None; before = []; budget = 0; profiles = [] }

-- two inputs, three outputs and scan chains of 4 and 2
module_x : ℕ → ModuleValue
module_x n = record { number = n; name = []; level = 1; inputs = 2; outputs = 3; bidirs = 0; setup = 0; chains = 4 ∷ 2 ∷ []; tests = test 1 2 ∷ [] }

soc_xx : SocValue
soc_xx = chip (1 ∷ 2 ∷ []) (module_x 1 ∷ module_x 2 ∷ [])

-- two self tests
soc_a : SocValue
soc_a = chip (1 ∷ 2 ∷ []) (bare_module 1 (self_test 5 0 ∷ []) ∷ bare_module 2 (self_test 7 0 ∷ []) ∷ [])

sum_of : (wire : ℕ) → List ℕ → List (ℕ × ℕ) → WeightsValue
sum_of wire ranks lists = record { wire = wire; ranks = ranks; lists = lists }

-- ---- a chip of two modules on two wires

times : (packed_tam_time soc_xx 0 1 ∷ packed_tam_time soc_xx 0 2 ∷ []) ≡ 28 ∷ 16 ∷ []
unfolding soc_xx chip module_x test packed counting averaging beside packed_time ops_of live_from
times = refl

-- 28 cycles are shown, and 29 can't be claimed
areas : (cost_of_all soc_xx (limits 2) [] 29 root_case (sum_of 1 [] []) ∷ worth_of_cycle 2 [] root_case (sum_of 1 [] []) ∷ leaf_shows soc_xx (limits 2) [] 29 root_case (sum_of 1 [] []) ∷ []) ≡ 56 ∷ 2 ∷ 28 ∷ []
unfolding soc_xx chip module_x test limits sum_of packed counting averaging beside packed_time ops_of live_from cost_of_all worth_of_cycle leaf_shows sum_below
areas = refl

-- ---- the same chip on buses of known widths

narrowest : Case
narrowest = record { intervals = interval 0 1 ∷ interval 0 0 ∷ []; may = λ place rank. true; may_rest = λ place. true }

widest : Case
widest = record { intervals = interval 2 2 ∷ []; may = λ place rank. true; may_rest = λ place. true }

-- on buses of one wire each module takes 28 cycles, so that in less than 28 none has a bus; on one of two wires both take 32
slots : (length (slots_of soc_xx 2 28 narrowest (sum_of 1 [] []) 0) ∷ length (slots_of soc_xx 2 29 narrowest (sum_of 1 [] []) 0) ∷ length (slots_of soc_xx 2 28 widest (sum_of 0 (1 ∷ []) []) 0) ∷ []) ≡ 0 ∷ 1 ∷ 1 ∷ []
unfolding narrowest widest soc_xx chip module_x test sum_of packed counting averaging beside packed_time ops_of live_from
slots = refl

one_bus : (cost_of_all soc_xx (limits 2) [] 28 widest (sum_of 0 (1 ∷ []) []) ∷ worth_of_cycle 2 [] widest (sum_of 0 (1 ∷ []) []) ∷ []) ≡ 32 ∷ 1 ∷ []
unfolding widest soc_xx chip module_x test limits sum_of packed counting averaging beside packed_time ops_of live_from cost_of_all worth_of_cycle sum_below
one_bus = refl

-- ---- lists of self tests

-- one test takes turns with itself; named twice in the leaf, it is weighed twice
self_tests : (cost_of_all soc_a (limits 2) (OfTurns (id 2 ∷ []) ∷ []) 7 root_case (sum_of 0 [] ((0, 1) ∷ [])) ∷ worth_of_cycle 2 (OfTurns (id 2 ∷ []) ∷ []) root_case (sum_of 0 [] ((0, 1) ∷ []))
    ∷ cost_of_all soc_a (limits 2) (OfTurns (id 2 ∷ []) ∷ []) 7 root_case (sum_of 0 [] ((0, 1) ∷ (0, 1) ∷ [])) ∷ worth_of_cycle 2 (OfTurns (id 2 ∷ []) ∷ []) root_case (sum_of 0 [] ((0, 1) ∷ (0, 1) ∷ [])) ∷ []) ≡ 7 ∷ 1 ∷ 14 ∷ 2 ∷ []
unfolding soc_a chip bare_module self_test id limits sum_of packed_time live_from cost_of_all worth_of_cycle sum_below
self_tests = refl

before_limits : LimitsValue
before_limits = record { wires = 2; power = None; before = (id 1, id 2) ∷ []; budget = 0; profiles = [] }

power_limits : LimitsValue
power_limits = record { wires = 1; power = Some 6; before = []; budget = 0; profiles = [] }

soc_power : SocValue
soc_power = chip (1 ∷ 2 ∷ []) (bare_module 1 (self_test 5 3 ∷ []) ∷ bare_module 2 (self_test 5 4 ∷ []) ∷ [])

-- the two tests exclude each other by a precedence or by their powers, and else don't
excluded : (names_exclude soc_a (limits 2) (id 2) (id 1) ∷ names_exclude soc_a before_limits (id 2) (id 1) ∷ names_exclude soc_power power_limits (id 2) (id 1) ∷ []) ≡ false ∷ true ∷ true ∷ []
unfolding soc_a soc_power before_limits power_limits chip bare_module self_test id limits live_from excludes leads
excluded = refl

-- powers of 3 and 4 under a limit of 6: together more than that; by the power alone 5 cycles are shown
crowds : (least_together 2 (4 ∷ 3 ∷ []) ∷ least_together 2 (5 ∷ 1 ∷ 4 ∷ []) ∷ counted 6 0 3 ∷ counted 6 3 4 ∷ counted 6 3 3 ∷ counted 6 3 2 ∷ []) ≡ 7 ∷ 5 ∷ 3 ∷ 6 ∷ 3 ∷ 0 ∷ []
crowds = refl

power_shown : leaf_shows soc_power power_limits (OfPower 0 ∷ []) 6 root_case (sum_of 0 [] ((0, 1) ∷ [])) ≡ 5
unfolding soc_power power_limits chip bare_module self_test sum_of packed_time live_from cost_of_all worth_of_cycle leaf_shows sum_below
power_shown = refl
