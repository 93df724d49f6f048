use Rattle.std.proofs.Common.{◌≡◌, ℕ, ◌-◌, ◌∙◌, length, map, nat_eq, ap, arith, rules}
use Rattle.std.specs.Prelude.{unwrap_or}
use Rattle.std.specs.Map.{lookup}
use Rattle.std.proofs.lemmas.List.{length-map}
use Rattle.plan_model.specs.Plans.{bus_place}
use Rattle.plan_model.specs.Views.{bus_value}
use Rattle.live_tests.proofs.Indexed.{buses_more}
use Rattle.live_tests.proofs.index.buses_by_module.Goals as goal

pub loop-place-preserved : goal.loop-place-preserved
loop-place-preserved c =
    buses_more c.args.buses.now (length c.args.buses.now) (c.loop-place.place - 1) c.loop-place.place c.index-buses-place.result c.deref.result.now (λ (m : ℕ). lookup (nat_eq m) c.loop-place.named.entries) (λ (m : ℕ). lookup (nat_eq m) c.note_modules.new.buses.entries)
    (omega (arith, c.loop-place-test.true)) (omega (arith, c.loop-place-test.true, c.loop-place.auto.place)) c.index-buses-place.is c.deref.ensures.value c.loop-place.invariant c.in_ok-note_modules.ensures

pub returns : goal.returns
returns c = λ m.
    let all : unwrap_or (lookup (nat_eq m) c.loop-place.named.entries) (length c.args.buses.now) ≡ bus_place m 0 (map bus_value c.args.buses.now) = search rules in
    ap (λ n. unwrap_or (lookup (nat_eq m) c.loop-place.named.entries) n) (length-map c.args.buses.now bus_value) ∙ all
