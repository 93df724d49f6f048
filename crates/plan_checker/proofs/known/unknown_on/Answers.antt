use Rattle.std.proofs.Common.{length, refl, sym, arith, Contains}
use Rattle.std.proofs.lemmas.Option.{slice_get_read}
use Rattle.plan_model.specs.declared.Bus.{Bus}
use Rattle.soc_model.specs.Chips.{soc_value}
use Rattle.plan_checker.proofs.Breaking.{if_broken, if_none, flat_kept_at, flat_all}
use Rattle.plan_checker.proofs.known.unknown_on.Goals as goal

pub returns-then-is_some-clause-first : goal.returns-then-is_some-clause-first
returns-then-is_some-clause-first c =
    let at = slice_get_read c.args.buses.now (length c.args.buses.now) c.loop-bus.bus-index c.bus-item.result refl (omega arith) c.bus-item.is in
    if_broken (Contains (soc_value c.args.soc.now).keys) (λ (b : Bus). b.modules.items) c.args.buses.now c.loop-bus.bus-index c.bus-item.result c.unknown_in-unknown.result at c.loop-bus.invariant (rw c.deref.ensures.value at c.unknown_in-unknown.ensures.first)

pub loop-bus-preserved : goal.loop-bus-preserved
loop-bus-preserved c =
    let at = slice_get_read c.args.buses.now (length c.args.buses.now) c.loop-bus.bus-index c.bus-item.result refl (omega arith) c.bus-item.is in
    flat_kept_at (Contains (soc_value c.args.soc.now).keys) (λ (b : Bus). b.modules.items) c.args.buses.now c.loop-bus.bus-index c.bus-item.result at c.loop-bus.invariant (if_none c.unknown_in-unknown.result _ (sym c.if-is_some.ensures) (rw c.deref.ensures.value at c.unknown_in-unknown.ensures.all))

pub returns-clause-all : goal.returns-clause-all
returns-clause-all c = flat_all (Contains (soc_value c.args.soc.now).keys) (λ (b : Bus). b.modules.items) c.args.buses.now c.loop-bus.bus-index (omega arith) c.loop-bus.invariant
