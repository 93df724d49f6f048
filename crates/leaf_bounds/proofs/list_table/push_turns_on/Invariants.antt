use Rattle.std.proofs.Common.{◌≡◌, ◌++◌, ℕ, List, map, take}
use Rattle.soc_model.specs.declared.TestId.{TestId}
use Rattle.soc_model.specs.Chips.{live_tests}
use Rattle.plan_model.specs.Proofs.{OfTurnsOn}
use Rattle.leaf_bounds.specs.ListTables.{role_of}
use Rattle.leaf_bounds.specs.ListRules.{AreTurnMarks, chip_ruled, limits_ruled}
use Rattle.leaf_bounds.proofs.list_table.push_turns_on.Given as goal

abbrev pub invariant-loop-place : goal.invariant-loop-place
invariant-loop-place l = (rank : ℕ) (tests : List TestId) → AreTurnMarks l.rules tests l.marks →
    l.roles.items ≡ l.initial.roles.items ++ map (role_of (chip_ruled l.rules) (limits_ruled l.rules) (OfTurnsOn rank tests)) (take l.place (live_tests (chip_ruled l.rules)))
