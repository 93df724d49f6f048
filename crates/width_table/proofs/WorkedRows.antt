-- The times of small modules.
use Rattle.std.proofs.Common.{◌≡◌, true, false, List, [], ◌∷◌, refl}
use Rattle.soc_model.specs.declared.Test.{Test}
use Rattle.soc_model.specs.Chips.{ModuleValue}
use Rattle.plan_model.specs.Operations.{ops_of}
use Rattle.wrapper_design.specs.Design.{design, put_on_least, put_all_on_least, sort_by_length, put_by_length, filled}
use Rattle.width_table.specs.Times.{mode_time, time}

-- two scan chains of 4 and 2, two inputs, three outputs, and a test in each mode
module_x : List Test → ModuleValue
module_x tests = record { number = 1; name = []; level = 1; inputs = 2; outputs = 3; bidirs = 0; setup = 0; chains = 4 ∷ 2 ∷ []; tests = tests }

scan_test : Test
scan_test = record { number = 1; scan = true; tam = true; patterns = 2; power = 0 }

terminals_test : Test
terminals_test = record { number = 2; scan = false; tam = true; patterns = 1; power = 0 }

times : (time (module_x (scan_test ∷ [])) 1 ∷ time (module_x (scan_test ∷ [])) 2 ∷ time (module_x (scan_test ∷ [])) 3 ∷ time (module_x (scan_test ∷ [])) 4 ∷ []) ≡ 28 ∷ 16 ∷ 14 ∷ 14 ∷ []
unfolding module_x scan_test mode_time time design filled put_on_least put_all_on_least sort_by_length put_by_length ops_of
times = refl

times_of_both : (time (module_x (scan_test ∷ terminals_test ∷ [])) 1 ∷ time (module_x (scan_test ∷ terminals_test ∷ [])) 2 ∷ time (module_x (scan_test ∷ terminals_test ∷ [])) 3 ∷ time (module_x (scan_test ∷ terminals_test ∷ [])) 4 ∷ []) ≡ 34 ∷ 20 ∷ 17 ∷ 17 ∷ []
unfolding module_x scan_test terminals_test mode_time time design filled put_on_least put_all_on_least sort_by_length put_by_length ops_of
times_of_both = refl

-- with a setup of ten cycles
setup_times : (mode_time (record (module_x (scan_test ∷ [])) { setup = 10 }) true 1 ∷ mode_time (record (module_x (scan_test ∷ [])) { setup = 10 }) true 2 ∷ []) ≡ 38 ∷ 26 ∷ []
unfolding module_x scan_test mode_time design filled put_on_least put_all_on_least sort_by_length put_by_length ops_of
setup_times = refl
