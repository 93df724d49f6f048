use Rattle.std.proofs.Common.{◌≡◌, ◌++◌, map, take, filter}
use Rattle.soc_model.specs.declared.Test.{Test}
use Rattle.soc_model.specs.Chips.{is_live}
use Rattle.controls.specs.Controls.{run_of}
use Rattle.controls.proofs.push_runs.Given as goal

abbrev pub invariant-loop-test : goal.invariant-loop-test
invariant-loop-test l = l.list.items ≡ l.initial.list.items ++ map (λ (t : Test). run_of (record { «module» = l.«module».number; test = t.number })) (filter is_live (take l.test-index l.«module».tests.items))
