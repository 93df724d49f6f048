use Rattle.std.proofs.Common.{ℕ, ◌-◌, ◌<◌, length, arith}
use Rattle.std.specs.Map.{lookup}
use Rattle.soc_model.specs.declared.TestId.{TestId}
use Rattle.soc_model.specs.Chips.{same_test}
use Rattle.live_tests.proofs.Indexing.{starts_more}
use Rattle.live_tests.proofs.index.starts_by_name.Goals as goal

pub loop-place-preserved : goal.loop-place-preserved
loop-place-preserved c =
    let d : TestId × ℕ = (record { «module» = 0; test = 0 }, 0) in
    let within : c.loop-place.place - 1 < length c.args.starts.now = omega (arith, c.loop-place-test.true, c.loop-place.auto.place) in
    starts_more c.args.starts.now (c.loop-place.place - 1) c.loop-place.place d (λ (id : TestId). lookup (same_test id) c.loop-place.named.entries) (λ (id : TestId). lookup (same_test id) c.insert.new.self.entries) (omega (arith, c.loop-place-test.true)) within c.loop-place.invariant c.in_ok-insert.ensures.updates.0
