-- Worked rows, by computation.
use Rattle.std.proofs.Common.{◌≡◌, ℕ, List, [], ◌∷◌, refl}
use Rattle.std.specs.Prelude.{true, false}
use Rattle.soc_model.specs.declared.Test.{Test}
use Rattle.soc_model.specs.Chips.{ModuleValue}
use Rattle.plan_model.specs.Operations.{ops_of}
use Rattle.wrapper_design.specs.Design.{design, put_on_least, put_all_on_least, sort_by_length, put_by_length, filled}
use Rattle.width_table.specs.Times.{mode_time, time}
use Rattle.width_table.specs.Tables.{TableValue, time_of}
use Rattle.bus_model.specs.Buses.{BusValue, cost_of, bottleneck_of, quickest_of}
use Rattle.bus_model.specs.Start.{start_of}
use Rattle.arch_settle.specs.Neighbours.{merged, joined_at, bottom_up_of, top_down_of, reshuffle_of, moved, split_off}

bus : ℕ → List ℕ → BusValue
bus width places = record { width = width; places = places }

one_test : Test
one_test = record { number = 1; scan = true; tam = true; patterns = 10; power = 0 }

wide_module : ℕ → ModuleValue
wide_module number = record { number = number; name = []; level = 1; inputs = 60; outputs = 60; bidirs = 0; setup = 0; chains = []; tests = one_test ∷ [] }

-- two modules of 60 inputs, 60 outputs and 10 patterns, on three wires
wide_pair : TableValue
wide_pair = record {
  soc = record { name = []; power_flag = false; xy_flag = false; keys = 1 ∷ 2 ∷ []; modules = wide_module 1 ∷ wide_module 2 ∷ [] };
  wires = 3;
}

start_of_wide_pair : start_of wide_pair (0 ∷ 1 ∷ []) ≡ bus 2 (0 ∷ []) ∷ bus 1 (1 ∷ []) ∷ []
unfolding start_of bottleneck_of wide_pair wide_module one_test bus time_of mode_time time design filled put_on_least put_all_on_least sort_by_length put_by_length ops_of
start_of_wide_pair = refl

cost_of_start : cost_of wide_pair (bus 2 (0 ∷ []) ∷ bus 1 (1 ∷ []) ∷ []) ≡ 670
unfolding wide_pair wide_module one_test bus time_of mode_time time design filled put_on_least put_all_on_least sort_by_length put_by_length ops_of
cost_of_start = refl

bottom_up_of_wide_pair : bottom_up_of wide_pair (bus 2 (0 ∷ []) ∷ bus 1 (1 ∷ []) ∷ []) ≡ (bus 3 (1 ∷ 0 ∷ []) ∷ []) ∷ []
unfolding merged joined_at quickest_of bottleneck_of wide_pair wide_module one_test bus time_of mode_time time design filled put_on_least put_all_on_least sort_by_length put_by_length ops_of
bottom_up_of_wide_pair = refl

top_down_of_wide_pair : top_down_of wide_pair (bus 2 (0 ∷ []) ∷ bus 1 (1 ∷ []) ∷ []) ≡ (bus 3 (0 ∷ 1 ∷ []) ∷ []) ∷ []
unfolding merged joined_at quickest_of bottleneck_of wide_pair wide_module one_test bus time_of mode_time time design filled put_on_least put_all_on_least sort_by_length put_by_length ops_of
top_down_of_wide_pair = refl

reshuffle_of_wide_pair : reshuffle_of wide_pair (bus 2 (0 ∷ []) ∷ bus 1 (1 ∷ []) ∷ []) ≡ []
unfolding moved split_off bottleneck_of wide_pair wide_module one_test bus time_of mode_time time design filled put_on_least put_all_on_least sort_by_length put_by_length ops_of
reshuffle_of_wide_pair = refl

cost_of_settled : cost_of wide_pair (bus 3 (1 ∷ 0 ∷ []) ∷ []) ≡ 460
unfolding wide_pair wide_module one_test bus time_of mode_time time design filled put_on_least put_all_on_least sort_by_length put_by_length ops_of
cost_of_settled = refl

two_patterns : Test
two_patterns = record { number = 1; scan = true; tam = true; patterns = 2; power = 0 }

narrow_module : ℕ → ModuleValue
narrow_module number = record { number = number; name = []; level = 1; inputs = 2; outputs = 3; bidirs = 0; setup = 0; chains = 4 ∷ 2 ∷ []; tests = two_patterns ∷ [] }

-- two modules of 2 inputs, 3 outputs, scan chains of 4 and 2 and 2 patterns, on two wires
narrow_pair : TableValue
narrow_pair = record {
  soc = record { name = []; power_flag = false; xy_flag = false; keys = 1 ∷ 2 ∷ []; modules = narrow_module 1 ∷ narrow_module 2 ∷ [] };
  wires = 2;
}

reshuffle_of_narrow_pair : reshuffle_of narrow_pair (bus 2 (0 ∷ 1 ∷ []) ∷ []) ≡ (bus 1 (1 ∷ []) ∷ bus 1 (0 ∷ []) ∷ []) ∷ (bus 1 (0 ∷ []) ∷ bus 1 (1 ∷ []) ∷ []) ∷ []
unfolding moved split_off bottleneck_of narrow_pair narrow_module two_patterns bus time_of mode_time time design filled put_on_least put_all_on_least sort_by_length put_by_length ops_of
reshuffle_of_narrow_pair = refl
