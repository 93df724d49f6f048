use Rattle.std.proofs.Common.{◌≡◌, ℕ, Bool, drop, map}
use Rattle.std.specs.List.{position_from}
use Rattle.std.specs.Map.{lookup}
use Rattle.plan_model.specs.Plans.{wraps}
use Rattle.plan_model.specs.Views.{wrapper_value}
use Rattle.live_tests.specs.Index.{is_pair}
use Rattle.live_tests.proofs.index.wrappers_by_mode.Given as goal

abbrev pub invariant-loop-place : goal.invariant-loop-place
invariant-loop-place l = (m : ℕ) (scan : Bool) → lookup (is_pair m scan) l.named.entries ≡ position_from (wraps m scan) l.place (drop l.place (map wrapper_value l.wrappers))
