use Rattle.std.proofs.Common.{◌≡◌, List, Some, false, get_or, subst}
use Rattle.std.specs.Prelude.{slice_get}
use Rattle.std.proofs.lemmas.Option.{slice_get-get_or}
use Rattle.soc_model.specs.declared.Test.{Test}
use Rattle.live_tests.proofs.placed.PlannedChip.push_module.Goals as goal

-- the search finds this too, in five seconds
pub test-requires-clause-test_there : goal.test-requires-clause-test_there
test-requires-clause-test_there c =
    let d : Test = record { number = 0; scan = false; tam = false; patterns = 0; power = 0 } in
    let ts = c.deref-test-items.result.now in
    let k = c.loop-test.test-index in
    (k, subst (λ (l : List Test). slice_get l k ≡ Some (get_or ts k d)) c.deref-test-items.ensures.value (slice_get-get_or ts k d c.loop-test-test.true))
