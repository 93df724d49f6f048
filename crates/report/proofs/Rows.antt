-- The definitions computed on small plans, against texts that were found by hand.
use Rattle.std.proofs.Common.{◌≡◌, ◌∙◌, ℕ, ◌+◌, ◌/◌, ◌%◌, ◌^◌, ◌≤◌, ◌<◌, List, [], ◌∷◌, ◌++◌, true, false, Some, None, ap, arith, codes, decimal}
use Rattle.std.proofs.lemmas.Fmt.{decimal_digit, decimal_step}
use Rattle.soc_model.specs.Chips.{ModuleValue, SocValue, live_from}
use Rattle.plan_model.specs.Bounds.{sum_below}
use Rattle.plan_model.specs.Operations.{ops_of}
use Rattle.plan_model.specs.Plans.{LimitsValue, PlanValue, WrapperValue, OfArea, OfModule, planned, planned_test}
use Rattle.wrapper_design.specs.Design.{design, put_on_least, put_all_on_least, sort_by_length, put_by_length, filled}
use Rattle.width_table.specs.Times.{mode_time, time}
use Rattle.report.specs.BusLines.{bus_line}
use Rattle.report.specs.Chains.{chain_lines}
use Rattle.report.specs.Holders.{held, holder}
use Rattle.report.specs.ModuleLines.{line_if_wired, module_text}
use Rattle.report.specs.Peaks.{peak}
use Rattle.report.specs.ReportText.{plan_lines, report_of, report_text}

-- ---- the numbers of the texts, which don't compute

one_digit : (n : ℕ) → n < 10 → decimal n ≡ (48 + n) ∷ []
one_digit n small = decimal_digit n small

two_digits : (n : ℕ) → 10 ≤ n → n < 2 ^ 64 → n / 10 < 10 → decimal n ≡ (48 + n / 10) ∷ (48 + n % 10) ∷ []
two_digits n some few small = decimal_step n some few ∙ ap (λ l. l ++ (48 + n % 10) ∷ []) (decimal_digit (n / 10) small)

n0 : decimal 0 ≡ codes "0"
n0 = one_digit 0 (omega arith)

n1 : decimal 1 ≡ codes "1"
n1 = one_digit 1 (omega arith)

n2 : decimal 2 ≡ codes "2"
n2 = one_digit 2 (omega arith)

n4 : decimal 4 ≡ codes "4"
n4 = one_digit 4 (omega arith)

n5 : decimal 5 ≡ codes "5"
n5 = one_digit 5 (omega arith)

n6 : decimal 6 ≡ codes "6"
n6 = one_digit 6 (omega arith)

n10 : decimal 10 ≡ codes "10"
n10 = two_digits 10 (omega arith) (omega arith) (omega arith)

n28 : decimal 28 ≡ codes "28"
n28 = two_digits 28 (omega arith) (omega arith) (omega arith)

n56 : decimal 56 ≡ codes "56"
n56 = two_digits 56 (omega arith) (omega arith) (omega arith)

-- ---- two modules of two scan chains each, one after the other on one wire

module_x : ℕ → ModuleValue
module_x n = record { number = n; name = []; level = 1; inputs = 2; outputs = 3; bidirs = 0; setup = 0; chains = 4 ∷ 2 ∷ []; tests = record { number = 1; scan = true; tam = true; patterns = 2; power = 0 } ∷ [] }

chip_xx : SocValue
chip_xx = record { name = []; power_flag = false; xy_flag = false; keys = 1 ∷ 2 ∷ []; modules = module_x 1 ∷ module_x 2 ∷ [] }

wrapper_x : ℕ → WrapperValue
wrapper_x n = record { «module» = n; scan = true; chains = record { ins = 2; scans = 0 ∷ 1 ∷ []; outs = 3 } ∷ [] }

plan_xx : PlanValue
plan_xx = record {
  buses = record { width = 1; modules = 1 ∷ 2 ∷ [] } ∷ [];
  wrappers = wrapper_x 1 ∷ wrapper_x 2 ∷ [];
  starts = (record { «module» = 1; test = 1 }, 0) ∷ (record { «module» = 2; test = 1 }, 28) ∷ [];
  cycles = 56;
  bound = record { cycles = 56; why = OfArea };
}

one_wire : LimitsValue
one_wire = record { wires = 1; power = None; before = []; budget = 20000; profiles = [] }

lines_xx : List ℕ
lines_xx =
    codes "cycles 56 bound 56 Area left 0\nwires 1 used 1 busy 56 of 56\npower 0 at 0 of -\nbus 0 width 1 tests 2 busy 56 idle 0\n"
    ++ (codes "module 1 bus 0 width 1 time 28 narrow 1 wide - -\nmodule 2 bus 0 width 1 time 28 narrow 1 wide - -\n"
    ++ codes "last 2.1 start 28 end 56 held 1.1 bus\nlast 1.1 start 0 end 28 held -\n")

on_one_bus : report_text chip_xx one_wire plan_xx ≡ lines_xx
unfolding chip_xx module_x wrapper_x plan_xx one_wire lines_xx report_of plan_lines peak bus_line line_if_wired module_text chain_lines held holder live_from planned planned_test ops_of sum_below mode_time time design filled put_on_least put_all_on_least sort_by_length put_by_length
on_one_bus = simp (n0, n1, n2, n28, n56)

-- ---- two self tests that draw too much together

self_tested : (n power : ℕ) → ModuleValue
self_tested n power = record { number = n; name = []; level = 1; inputs = 0; outputs = 0; bidirs = 0; setup = 0; chains = []; tests = record { number = 1; scan = true; tam = false; patterns = 5; power = power } ∷ [] }

chip_a : SocValue
chip_a = record { name = []; power_flag = false; xy_flag = false; keys = 1 ∷ 2 ∷ []; modules = self_tested 1 3 ∷ self_tested 2 4 ∷ [] }

plan_a : PlanValue
plan_a = record {
  buses = [];
  wrappers = [];
  starts = (record { «module» = 1; test = 1 }, 0) ∷ (record { «module» = 2; test = 1 }, 5) ∷ [];
  cycles = 10;
  bound = record { cycles = 5; why = OfModule 1 };
}

little_power : LimitsValue
little_power = record { wires = 1; power = Some 6; before = []; budget = 20000; profiles = [] }

lines_a : List ℕ
lines_a =
    codes "cycles 10 bound 5 Module left 5\nwires 1 used 0 busy 0 of 10\npower 4 at 5 of 6\n"
    ++ codes "last 2.1 start 5 end 10 held 1.1 power\nlast 1.1 start 0 end 5 held -\n"

by_power : report_text chip_a little_power plan_a ≡ lines_a
unfolding chip_a self_tested plan_a little_power lines_a report_of plan_lines peak bus_line line_if_wired module_text chain_lines held holder live_from planned planned_test ops_of sum_below mode_time time design filled put_on_least put_all_on_least sort_by_length put_by_length
by_power = simp (n0, n1, n2, n4, n5, n6, n10)
