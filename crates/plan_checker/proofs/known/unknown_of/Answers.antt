use Rattle.std.proofs.Common.{map, length, refl, arith, Contains}
use Rattle.std.proofs.lemmas.Option.{slice_get_read}
use Rattle.plan_model.specs.declared.Wrapper.{Wrapper}
use Rattle.soc_model.specs.Chips.{soc_value}
use Rattle.plan_checker.proofs.Rooms.{length_values}
use Rattle.plan_checker.proofs.Breaking.{kept_more, breaks_at, kept_all}
use Rattle.common_lemmas.proofs.Lists.{map_at}
use Rattle.plan_checker.proofs.known.unknown_of.Goals as goal

pub returns-then-not-is_known-clause-first : goal.returns-then-not-is_known-clause-first
returns-then-not-is_known-clause-first c =
    let at = map_at (λ (w : Wrapper). w.«module») c.args.wrappers.now c.loop-wrapper.wrapper-index c.wrapper-item.result (slice_get_read c.args.wrappers.now (length c.args.wrappers.now) c.loop-wrapper.wrapper-index c.wrapper-item.result refl (omega arith) c.wrapper-item.is) in
    breaks_at (Contains (soc_value c.args.soc.now).keys) (map (λ (w : Wrapper). w.«module») c.args.wrappers.now) c.loop-wrapper.wrapper-index c.wrapper-item.result.«module» at c.loop-wrapper.invariant (c.if-not-is_known.ensures.unknown refl)

pub loop-wrapper-preserved : goal.loop-wrapper-preserved
loop-wrapper-preserved c =
    let at = map_at (λ (w : Wrapper). w.«module») c.args.wrappers.now c.loop-wrapper.wrapper-index c.wrapper-item.result (slice_get_read c.args.wrappers.now (length c.args.wrappers.now) c.loop-wrapper.wrapper-index c.wrapper-item.result refl (omega arith) c.wrapper-item.is) in
    kept_more (Contains (soc_value c.args.soc.now).keys) (map (λ (w : Wrapper). w.«module») c.args.wrappers.now) c.loop-wrapper.wrapper-index c.wrapper-item.result.«module» at c.loop-wrapper.invariant (c.if-not-is_known.ensures.known refl)

pub returns-clause-all : goal.returns-clause-all
returns-clause-all c = kept_all (Contains (soc_value c.args.soc.now).keys) (map (λ (w : Wrapper). w.«module») c.args.wrappers.now) c.loop-wrapper.wrapper-index (omega (arith, length_values (λ (w : Wrapper). w.«module») c.args.wrappers.now)) c.loop-wrapper.invariant
