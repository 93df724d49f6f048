use Rattle.std.proofs.Common.{◌≡◌, drop}
use Rattle.std.specs.Map.{lookup}
use Rattle.soc_model.specs.declared.TestId.{TestId}
use Rattle.soc_model.specs.Chips.{same_test}
use Rattle.live_tests.proofs.index.starts_by_name.Given as goal

abbrev pub invariant-loop-place : goal.invariant-loop-place
invariant-loop-place l = (id : TestId) → lookup (same_test id) l.named.entries ≡ lookup (same_test id) (drop l.place l.starts)
