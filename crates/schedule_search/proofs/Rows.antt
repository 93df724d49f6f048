-- Worked rows: the walk over the orders of a job, computed.
use Rattle.std.proofs.Common.{◌≡◌, ℕ, true, false, None, Some, List, [], ◌∷◌, length, refl, slice_get}
use Rattle.resource_table.specs.Jobs.{TestValue, JobValue}
use Rattle.schedule_search.specs.Walks.{stands_before, by_length, walk}

abbrev self_test_of : (place cycles power : ℕ) → TestValue
self_test_of place cycles power = record { id = record { «module» = 1; test = 1 }; place = place; parent = None; bus = None; cycles = cycles; steps = (0, power) ∷ [] }

-- self tests, no precedences, and a limit on power
abbrev free_job : List TestValue → ℕ → JobValue
free_job tests most = record { tests = tests; before = []; power = Some most }

abbrev five_job : JobValue
five_job = free_job (self_test_of 0 3 1 ∷ self_test_of 1 3 1 ∷ self_test_of 2 2 1 ∷ self_test_of 3 2 1 ∷ self_test_of 4 2 1 ∷ []) 2

-- three tests, of which the first precedes the second
abbrev three_job : JobValue
three_job = record (free_job (self_test_of 0 2 1 ∷ self_test_of 1 3 1 ∷ self_test_of 2 3 1 ∷ []) 2) { before = (0, 1) ∷ [] }

by_length_row : by_length three_job ≡ 1 ∷ 2 ∷ 0 ∷ []
by_length_row = refl

walk_row : walk three_job ≡ [] ∷ (2 ∷ []) ∷ (2 ∷ 0 ∷ []) ∷ (2 ∷ 0 ∷ 1 ∷ []) ∷ (0 ∷ []) ∷ (0 ∷ 1 ∷ []) ∷ (0 ∷ 1 ∷ 2 ∷ []) ∷ (0 ∷ 2 ∷ []) ∷ (0 ∷ 2 ∷ 1 ∷ []) ∷ []
walk_row = refl

-- the walk over five tests without precedences has 326 entries; the order 1, 3, 4, 2, 5 is the entry 27
count_row : length (walk five_job) ≡ 326
count_row = refl

entry_row : slice_get (walk five_job) 26 ≡ Some (0 ∷ 2 ∷ 3 ∷ 1 ∷ 4 ∷ [])
entry_row = refl

before_row : stands_before three_job (2 ∷ 0 ∷ 1 ∷ []) (0 ∷ 1 ∷ 2 ∷ []) ∷ stands_before three_job (0 ∷ 2 ∷ 1 ∷ []) (0 ∷ 1 ∷ 2 ∷ []) ∷ [] ≡ true ∷ false ∷ []
before_row = refl
