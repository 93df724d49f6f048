use Rattle.std.proofs.Common.{◌≡◌, Some, false, replicate, get_or, length, arith, slice_get}
use Rattle.std.proofs.lemmas.Option.{slice_get-get_or}
use Rattle.soc_model.specs.Chips.{soc_value}
use Rattle.plan_model.specs.Certificates.{IsForcedItem}
use Rattle.bound_certificate.proofs.Breached.{none_kept, next_kept, break_here, no_break}
use Rattle.bound_certificate.proofs.ForcedEntries.{none_taken, cleared-at}
use Rattle.bound_certificate.proofs.forced_lists.forced_breach.Goals as goal

pub loop-place-init : goal.loop-place-init
loop-place-init c =
    let cleared : c.fill.new.self ≡ replicate (length c.args.marks.now) false = c.fill.ensures.after (λ y e. e) in
    record {
      room = omega (arith, c.fill.ensures.len, c.requires.room);
      least = omega arith;
      so_far = none_taken (soc_value c.args.soc.now) c.args.limits.now.wires c.args.claimed c.args.modules.now c.fill.new.self (λ p. cleared-at (length c.args.marks.now) p c.fill.new.self cleared);
      kept = none_kept (IsForcedItem (soc_value c.args.soc.now) c.args.limits.now.wires c.args.claimed) c.args.modules.now;
    }

pub returns-in-None : goal.returns-in-None
returns-in-None c =
    let at : slice_get c.args.modules.now c.loop-place.place ≡ Some (get_or c.args.modules.now c.loop-place.place 0) = slice_get-get_or c.args.modules.now c.loop-place.place 0 c.loop-place-test.true in
    break_here (IsForcedItem (soc_value c.args.soc.now) c.args.limits.now.wires c.args.claimed) c.args.modules.now c.loop-place.place (get_or c.args.modules.now c.loop-place.place 0) c.loop-place.invariant.kept at (c.in-None.ensures.breach (get_or c.args.modules.now c.loop-place.place 0) at)

pub loop-place-preserved : goal.loop-place-preserved
loop-place-preserved c =
    let at : slice_get c.args.modules.now c.loop-place.place ≡ Some (get_or c.args.modules.now c.loop-place.place 0) = slice_get-get_or c.args.modules.now c.loop-place.place 0 c.loop-place-test.true in
    let both = c.in-Some.ensures.kept (get_or c.args.modules.now c.loop-place.place 0) at in
    record {
      room = omega (arith, c.take_entry.auto.marks, c.loop-place.invariant.room);
      least = c.in-Some.ensures.few;
      so_far = both.1;
      kept = next_kept (IsForcedItem (soc_value c.args.soc.now) c.args.limits.now.wires c.args.claimed) c.args.modules.now c.loop-place.place (get_or c.args.modules.now c.loop-place.place 0) c.loop-place.invariant.kept at both.0;
    }

pub returns : goal.returns
returns c = no_break (IsForcedItem (soc_value c.args.soc.now) c.args.limits.now.wires c.args.claimed) c.args.modules.now c.loop-place.place c.loop-place.invariant.kept (omega (arith, c.loop-place-test.false))
