use Rattle.std.proofs.Common.{List, ap, length, subst, arith}
use Rattle.std.proofs.lemmas.List.Sorted.{All-permutation, length_permutation}
use Rattle.plan_model.specs.Views.{limits_value}
use Rattle.live_tests.specs.declared.power_events.Event.{Event}
use Rattle.std.specs.List.Sorted.{IsPermutation}
use Rattle.plan_checker.specs.Events.{IsSmall}
use Rattle.plan_checker.proofs.FewEvents.{small_events, few_events}
use Rattle.plan_checker.proofs.Summing.{over_from_high}
use Rattle.plan_checker.proofs.power.first_over.Goals as goal

pub first_excess-requires-clause-small : goal.first_excess-requires-clause-small
first_excess-requires-clause-small c =
    rw c.deref.ensures.value (All-permutation IsSmall c.fill_events.new.events.items c.sort_events.new.events.items c.sort_events.ensures.permutation (rw c.fill_events.ensures.filled (small_events (limits_value c.args.load.now.limits.now) c.args.load.now.placed.now c.requires.load.steps)))

pub first_excess-requires-clause-few : goal.first_excess-requires-clause-few
first_excess-requires-clause-few c =
    let moved = length_permutation c.fill_events.new.events.items c.sort_events.new.events.items c.sort_events.ensures.permutation in
    omega (arith, ap length c.deref.ensures.value, moved, ap length c.fill_events.ensures.filled, few_events (limits_value c.args.load.now.limits.now) c.args.load.now.placed.now c.requires.load.steps, c.requires.load.few)

pub returns-clause-first : goal.returns-clause-first
returns-clause-first c = over_from_high (limits_value c.args.load.now.limits.now) c.args.load.now.placed.now c.sort_events.new.events.items c.args.load.now.most c.requires.load.steps (subst (λ (v : List Event). IsPermutation v c.sort_events.new.events.items) c.fill_events.ensures.filled c.sort_events.ensures.permutation) c.first_excess.result (rw c.deref.ensures.value at c.first_excess.ensures)
