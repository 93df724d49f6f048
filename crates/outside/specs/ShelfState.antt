-- What is seen of a shelf in memory.
use Rattle.std.specs.Prelude.{ℕ, List, refl, if◌then◌else◌}
use Rattle.std.specs.FinMap.{code}
use Rattle.std.specs.Coded.{Coded, code_by, coded×, coded_ℕ, coded_list}
use Rattle.outside.specs.Counts.{next_count, is_listed}
use Rattle.outside.specs.Held.{Files}

-- what it holds, the numbers of the loads that are to fail, and the counts of loads and of faults
pub record ShelfState : Type 0 where
  pub files : Files
  pub failing : List ℕ
  pub calls : ℕ
  pub faults : ℕ

-- the state as nested pairs, whose parts have codes: a model that holds a map has to give one
abbrev pub shelf_state_code : Coded ShelfState
shelf_state_code =
    code_by (Files × (List ℕ × (ℕ × ℕ)))
    (coded× (code (coded_list coded_ℕ) (coded_list coded_ℕ)) (coded× (coded_list coded_ℕ) (coded× coded_ℕ coded_ℕ)))
    (λ s. (s.files, (s.failing, (s.calls, s.faults))))
    (λ p. record { files = p.0; failing = p.1.0; calls = p.1.1.0; faults = p.1.1.1 })
    (λ _. refl)

-- the shelf after a load, whatever its answer: the load is counted, and a listed one is a fault
abbrev pub after_load : ShelfState → ShelfState
after_load s = record s { calls = next_count s.calls; faults = (if is_listed s.failing s.calls then next_count s.faults else s.faults) }
