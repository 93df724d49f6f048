-- What a table keeps of its placed tests, as it would be built from the list of them.
use Rattle.std.specs.Prelude.{ℕ, nat_eq, Option, None, Some, List, [], ◌∷◌, if◌then◌else◌}
use Rattle.busy_times.specs.declared.power.Draw.{Draw}
use Rattle.busy_times.specs.Draws.{draws_from, marks_from}
use Rattle.resource_table.specs.declared.Placement.{Placement}
use Rattle.resource_table.specs.Jobs.{JobValue, test_at, cycles_of}
use Rattle.resource_table.specs.Schedules.{end_of}

-- ---- power

abbrev pub draws_of : JobValue → Placement → List Draw
draws_of job p = draws_from p.start (cycles_of job p.test) (test_at job p.test).steps

abbrev pub marks_of : JobValue → Placement → List ℕ
marks_of job p = marks_from p.start (draws_of job p)

-- ---- ends

-- where a test ends, if it is placed
abbrev pub end_in : JobValue → List Placement → ℕ → Option ℕ
end_in job [] test = None
end_in job (p ∷ placed) test = if nat_eq p.test test then Some (end_of job p) else end_in job placed test
