use Rattle.std.proofs.Common.{◌≡◌, map}
use Rattle.std.specs.List.{range_with_len}
use Rattle.soc_model.specs.Chips.{module_value}
use Rattle.proof_facts.specs.Times.{tam_times_of}
use Rattle.proof_facts.proofs.table.tam_row.Given as goal

abbrev pub invariant-loop-place : goal.invariant-loop-place
invariant-loop-place l = l.row.items ≡ map (λ w. tam_times_of (module_value l.module) w l.module.tests.items) (range_with_len 1 l.place)
