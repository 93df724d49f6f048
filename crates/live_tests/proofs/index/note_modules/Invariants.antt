use Rattle.std.proofs.Common.{◌≡◌, ℕ, Some, nat_eq, take}
use Rattle.std.specs.Prelude.{if◌then◌else◌}
use Rattle.std.specs.List.{list_any}
use Rattle.std.specs.Map.{lookup}
use Rattle.live_tests.proofs.index.note_modules.Given as goal

abbrev pub invariant-loop-module : goal.invariant-loop-module
invariant-loop-module l = (m : ℕ) → lookup (nat_eq m) l.buses.entries ≡ (if list_any (nat_eq m) (take l.module-index l.modules) then Some l.bus else lookup (nat_eq m) l.initial.buses.entries)
