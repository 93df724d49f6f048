use Rattle.std.proofs.Common.{◌≡◌, ℕ, ◌<◌, Some, true, slice_get}
use Rattle.resource_table.specs.Schedules.{is_placed}
use Rattle.row_runner.proofs.frames.may_be_next.Given as goal

abbrev pub invariant-loop-earlier : goal.invariant-loop-earlier
invariant-loop-earlier g l = (n : ℕ) (p : ℕ × ℕ) → n < l.earlier-index → slice_get l.earlier-items n ≡ Some p → p.1 ≡ l.test → is_placed l.table.placed p.0 ≡ true
