use Rattle.std.proofs.Common.{◌≡◌, ◌∙◌, ◌-◌, ◌<◌, length, arith, ap, drop}
use Rattle.std.specs.List.{position_from}
use Rattle.std.specs.Map.{lookup}
use Rattle.soc_model.specs.declared.TestId.{TestId}
use Rattle.soc_model.specs.Chips.{same_test}
use Rattle.live_tests.proofs.Indexing.{places_more, places_all}
use Rattle.live_tests.proofs.places_by_name.Goals as goal

pub loop-place-preserved : goal.loop-place-preserved
loop-place-preserved c =
    let d : TestId = record { «module» = 0; test = 0 } in
    let within : c.loop-place.place - 1 < length c.args.names.now = omega (arith, c.loop-place-test.true, c.loop-place.auto.place) in
    places_more c.args.names.now (c.loop-place.place - 1) c.loop-place.place d (λ (id : TestId). lookup (same_test id) c.loop-place.places.entries) (λ (id : TestId). lookup (same_test id) c.insert.new.self.entries) (omega (arith, c.loop-place-test.true)) within c.loop-place.invariant c.in_ok-insert.ensures.updates.0

pub returns : goal.returns
returns c = λ id.
    let zero : c.loop-place.place ≡ 0 = omega (arith, c.loop-place-test.false) in
    c.loop-place.invariant id ∙ ap (λ n. position_from (same_test id) n (drop n c.args.names.now)) zero ∙ places_all c.args.names.now id
