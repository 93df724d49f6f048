use Rattle.std.proofs.Common.{◌≡◌, ◌+◌, ◌≤◌, Some, length, map, take, refl, sym, ap, ◌∙◌, arith, slice_get}
use Rattle.std.proofs.lemmas.List.{length-append, length-take-le, take_all}
use Rattle.std.proofs.lemmas.Option.{slice_get_read}
use Rattle.plan_model.specs.declared.Wrapper.{Wrapper}
use Rattle.soc_model.specs.Chips.{soc_value}
use Rattle.plan_model.specs.Views.{plan_value, wrapper_value}
use Rattle.plan_model.specs.Rules.{IsFitting, used_pairs, pair_of}
use Rattle.plan_model.proofs.FirstBreaches.{EachTo, each_more, each_all, first_here}
use Rattle.plan_checker.proofs.Rooms.{length_values, new_fit}
use Rattle.plan_checker.proofs.Pairing.{paired, not_paired, pairs_more}
use Rattle.common_lemmas.proofs.Lists.{map_at}
use Rattle.plan_checker.proofs.wrappers.take_wrappers.Goals as goal

pub returns-then-not-is_used-clause-first : goal.returns-then-not-is_used-clause-first
returns-then-not-is_used-clause-first c =
    let at : slice_get (map wrapper_value c.args.wrappers.now) c.loop-wrapper.wrapper-index ≡ Some (wrapper_value c.wrapper-item.result) = map_at wrapper_value c.args.wrappers.now c.loop-wrapper.wrapper-index c.wrapper-item.result (slice_get_read c.args.wrappers.now (length c.args.wrappers.now) c.loop-wrapper.wrapper-index c.wrapper-item.result refl (omega arith) c.wrapper-item.is) in
    (c.loop-wrapper.wrapper-index, (wrapper_value c.wrapper-item.result), first_here (IsFitting (soc_value c.args.soc.now) (plan_value c.args.plan.now)) (map wrapper_value c.args.wrappers.now) c.loop-wrapper.wrapper-index (wrapper_value c.wrapper-item.result) c.loop-wrapper.invariant.each at (λ fits. c.if-not-is_used.ensures.other refl fits.used), refl)

pub returns-then-has_pair-clause-first : goal.returns-then-has_pair-clause-first
returns-then-has_pair-clause-first c =
    let at : slice_get (map wrapper_value c.args.wrappers.now) c.loop-wrapper.wrapper-index ≡ Some (wrapper_value c.wrapper-item.result) = map_at wrapper_value c.args.wrappers.now c.loop-wrapper.wrapper-index c.wrapper-item.result (slice_get_read c.args.wrappers.now (length c.args.wrappers.now) c.loop-wrapper.wrapper-index c.wrapper-item.result refl (omega arith) c.wrapper-item.is) in
    let any = rw c.loop-wrapper.invariant.filled at (sym c.if-has_pair.ensures) in
    (c.loop-wrapper.wrapper-index, (wrapper_value c.wrapper-item.result), first_here (IsFitting (soc_value c.args.soc.now) (plan_value c.args.plan.now)) (map wrapper_value c.args.wrappers.now) c.loop-wrapper.wrapper-index (wrapper_value c.wrapper-item.result) c.loop-wrapper.invariant.each at (λ fits. fits.new (paired c.wrapper-item.result.«module» c.wrapper-item.result.scan _ any)), refl)

pub has_wires-requires-clause-known : goal.has_wires-requires-clause-known
has_wires-requires-clause-known c = c.requires.known c.loop-wrapper.wrapper-index c.wrapper-item.result.«module» (map_at (λ (w : Wrapper). w.«module») c.args.wrappers.now c.loop-wrapper.wrapper-index c.wrapper-item.result (slice_get_read c.args.wrappers.now (length c.args.wrappers.now) c.loop-wrapper.wrapper-index c.wrapper-item.result refl (omega arith) c.wrapper-item.is))

pub returns-then-not-has_wires-clause-first : goal.returns-then-not-has_wires-clause-first
returns-then-not-has_wires-clause-first c =
    let at : slice_get (map wrapper_value c.args.wrappers.now) c.loop-wrapper.wrapper-index ≡ Some (wrapper_value c.wrapper-item.result) = map_at wrapper_value c.args.wrappers.now c.loop-wrapper.wrapper-index c.wrapper-item.result (slice_get_read c.args.wrappers.now (length c.args.wrappers.now) c.loop-wrapper.wrapper-index c.wrapper-item.result refl (omega arith) c.wrapper-item.is) in
    let wired = rw c.deref.ensures.value at c.if-not-has_wires.ensures in
    (c.loop-wrapper.wrapper-index, (wrapper_value c.wrapper-item.result), first_here (IsFitting (soc_value c.args.soc.now) (plan_value c.args.plan.now)) (map wrapper_value c.args.wrappers.now) c.loop-wrapper.wrapper-index (wrapper_value c.wrapper-item.result) c.loop-wrapper.invariant.each at (λ fits. wired (fits.some_chain, fits.on_wires)), refl)

pub put_pair-requires-clause-space : goal.put_pair-requires-clause-space
put_pair-requires-clause-space c =
    let at : slice_get (map wrapper_value c.args.wrappers.now) c.loop-wrapper.wrapper-index ≡ Some (wrapper_value c.wrapper-item.result) = map_at wrapper_value c.args.wrappers.now c.loop-wrapper.wrapper-index c.wrapper-item.result (slice_get_read c.args.wrappers.now (length c.args.wrappers.now) c.loop-wrapper.wrapper-index c.wrapper-item.result refl (omega arith) c.wrapper-item.is) in
    let any = rw c.loop-wrapper.invariant.filled at (sym c.if-has_pair.ensures) in
    let wired = rw c.deref.ensures.value at c.if-not-has_wires.ensures in
    let fitting : IsFitting (soc_value c.args.soc.now) (plan_value c.args.plan.now) (take c.loop-wrapper.wrapper-index (map wrapper_value c.args.wrappers.now)) (wrapper_value c.wrapper-item.result) = record { used = c.if-not-is_used.ensures.used refl; new = not_paired c.wrapper-item.result.«module» c.wrapper-item.result.scan _ any; some_chain = wired.0; on_wires = wired.1 } in
    let each : EachTo (IsFitting (soc_value c.args.soc.now) (plan_value c.args.plan.now)) (map wrapper_value c.args.wrappers.now) (c.loop-wrapper.wrapper-index + 1) = each_more (IsFitting (soc_value c.args.soc.now) (plan_value c.args.plan.now)) (map wrapper_value c.args.wrappers.now) c.loop-wrapper.wrapper-index (wrapper_value c.wrapper-item.result) c.loop-wrapper.invariant.each at fitting in
    let long : length (map wrapper_value c.args.wrappers.now) ≡ length c.args.wrappers.now = length_values wrapper_value c.args.wrappers.now in
    let fit : c.loop-wrapper.wrapper-index + 1 ≤ length (used_pairs (soc_value c.args.soc.now)) = new_fit pair_of (map wrapper_value c.args.wrappers.now) (used_pairs (soc_value c.args.soc.now)) (c.loop-wrapper.wrapper-index + 1) (wrapper_value c.wrapper-item.result) (omega arith) (λ m x less at. (each m x less at).new) (λ m x less at. (each m x less at).used) in
    let taken : length (map pair_of (take c.loop-wrapper.wrapper-index (map wrapper_value c.args.wrappers.now))) ≡ c.loop-wrapper.wrapper-index = length_values pair_of (take c.loop-wrapper.wrapper-index (map wrapper_value c.args.wrappers.now)) ∙ length-take-le c.loop-wrapper.wrapper-index (map wrapper_value c.args.wrappers.now) (omega arith) in
    omega (arith, fit, taken, c.requires.space, c.loop-wrapper.invariant.space, ap length c.loop-wrapper.invariant.filled)

pub loop-wrapper-preserved : goal.loop-wrapper-preserved
loop-wrapper-preserved c =
    let at : slice_get (map wrapper_value c.args.wrappers.now) c.loop-wrapper.wrapper-index ≡ Some (wrapper_value c.wrapper-item.result) = map_at wrapper_value c.args.wrappers.now c.loop-wrapper.wrapper-index c.wrapper-item.result (slice_get_read c.args.wrappers.now (length c.args.wrappers.now) c.loop-wrapper.wrapper-index c.wrapper-item.result refl (omega arith) c.wrapper-item.is) in
    let any = rw c.loop-wrapper.invariant.filled at (sym c.if-has_pair.ensures) in
    let wired = rw c.deref.ensures.value at c.if-not-has_wires.ensures in
    let fitting : IsFitting (soc_value c.args.soc.now) (plan_value c.args.plan.now) (take c.loop-wrapper.wrapper-index (map wrapper_value c.args.wrappers.now)) (wrapper_value c.wrapper-item.result) = record { used = c.if-not-is_used.ensures.used refl; new = not_paired c.wrapper-item.result.«module» c.wrapper-item.result.scan _ any; some_chain = wired.0; on_wires = wired.1 } in
    let each : EachTo (IsFitting (soc_value c.args.soc.now) (plan_value c.args.plan.now)) (map wrapper_value c.args.wrappers.now) (c.loop-wrapper.wrapper-index + 1) = each_more (IsFitting (soc_value c.args.soc.now) (plan_value c.args.plan.now)) (map wrapper_value c.args.wrappers.now) c.loop-wrapper.wrapper-index (wrapper_value c.wrapper-item.result) c.loop-wrapper.invariant.each at fitting in
    record {
      each = each;
      filled = c.put_pair.ensures.filled ∙ rw c.loop-wrapper.invariant.filled (sym (pairs_more (map wrapper_value c.args.wrappers.now) c.loop-wrapper.wrapper-index (wrapper_value c.wrapper-item.result) at));
      space = omega (arith, c.loop-wrapper.invariant.space, c.put_pair.ensures.space_left, simp length-append at (ap length c.put_pair.ensures.filled));
    }

pub returns-clause-kept : goal.returns-clause-kept
returns-clause-kept c = each_all (IsFitting (soc_value c.args.soc.now) (plan_value c.args.plan.now)) (map wrapper_value c.args.wrappers.now) c.loop-wrapper.wrapper-index (omega (arith, length_values wrapper_value c.args.wrappers.now)) c.loop-wrapper.invariant.each

pub returns-clause-filled : goal.returns-clause-filled
returns-clause-filled c = rw (take_all c.loop-wrapper.wrapper-index (map wrapper_value c.args.wrappers.now) (omega (arith, length_values wrapper_value c.args.wrappers.now))) at c.loop-wrapper.invariant.filled
