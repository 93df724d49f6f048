-- Worked rows: the definitions, computed.
use Rattle.std.proofs.Common.{◌≡◌, ℕ, Option, true, false, None, Some, List, [], ◌∷◌, map, refl}
use Rattle.resource_table.specs.{declared.Placement.Placement, Jobs.TestValue, Jobs.JobValue}
use Rattle.resource_table.specs.Schedules.{at_start, exclude, last_end, power_at, ready_at, is_placed}

-- four self tests: the first draws less from cycle 4 on, and precedes the third, which is of a child of the second
abbrev sample_test : ℕ → Option ℕ → ℕ → List (ℕ × ℕ) → TestValue
sample_test place parent cycles steps = record { id = record { «module» = 1; test = 1 }; place = place; parent = parent; bus = None; cycles = cycles; steps = steps }

abbrev sample_job : JobValue
sample_job = record {
  tests = sample_test 0 None 5 ((0, 3) ∷ (4, 2) ∷ []) ∷ sample_test 1 None 5 ((0, 4) ∷ []) ∷ sample_test 2 (Some 1) 3 ((0, 2) ∷ []) ∷ sample_test 3 None 2 ((0, 4) ∷ []) ∷ [];
  before = (0, 2) ∷ [];
  power = Some 6;
}

-- the first test draws 3 and from its cycle 4 on 2; the second starts there and draws 4
abbrev two_placed : List Placement
two_placed = at_start 0 0 ∷ at_start 1 4 ∷ []

power_row : map (power_at sample_job two_placed) (0 ∷ 3 ∷ 4 ∷ 5 ∷ 8 ∷ 9 ∷ []) ≡ 3 ∷ 3 ∷ 6 ∷ 4 ∷ 4 ∷ 0 ∷ []
power_row = refl

end_row : last_end sample_job two_placed ≡ 9
end_row = refl

-- the first test precedes the third, and none precedes the fourth
ready_row : map (ready_at sample_job two_placed) (2 ∷ 3 ∷ []) ≡ 5 ∷ 0 ∷ []
ready_row = refl

placed_row : map (is_placed two_placed) (0 ∷ 1 ∷ 2 ∷ []) ≡ true ∷ true ∷ false ∷ []
placed_row = refl

-- a module, its direct parent and its grandparent
module_row : map (λ p. exclude (sample_test p None 1 []) (sample_test 3 (Some 2) 1 [])) (1 ∷ 2 ∷ 3 ∷ []) ≡ false ∷ true ∷ true ∷ []
module_row = refl

abbrev over_bus : ℕ → ℕ → TestValue
over_bus place bus = record (sample_test place None 1 []) { bus = Some bus }

-- tests of two modules over buses; a self test goes over none
bus_row : exclude (over_bus 1 0) (over_bus 2 0) ∷ exclude (over_bus 1 0) (over_bus 2 1) ∷ exclude (over_bus 1 0) (sample_test 2 None 1 []) ∷ exclude (sample_test 1 None 1 []) (sample_test 2 None 1 []) ∷ [] ≡ true ∷ false ∷ false ∷ false ∷ []
bus_row = refl
