use Rattle.std.proofs.Common.{refl, arith, Contains}
use Rattle.std.proofs.lemmas.Option.{slice_get-get_or}
use Rattle.soc_model.specs.Chips.{soc_value}
use Rattle.plan_checker.proofs.Breaking.{kept_more, breaks_at, kept_all}
use Rattle.plan_checker.proofs.known.unknown_in.Goals as goal

pub returns-then-not-is_known-clause-first : goal.returns-then-not-is_known-clause-first
returns-then-not-is_known-clause-first c = breaks_at (Contains (soc_value c.args.soc.now).keys) c.args.listed.now c.loop-number.number-index _ (slice_get-get_or c.args.listed.now c.loop-number.number-index 0 (omega arith)) c.loop-number.invariant (c.if-not-is_known.ensures.unknown refl)

pub loop-number-preserved : goal.loop-number-preserved
loop-number-preserved c = kept_more (Contains (soc_value c.args.soc.now).keys) c.args.listed.now c.loop-number.number-index _ (slice_get-get_or c.args.listed.now c.loop-number.number-index 0 (omega arith)) c.loop-number.invariant (c.if-not-is_known.ensures.known refl)

pub returns-clause-all : goal.returns-clause-all
returns-clause-all c = kept_all (Contains (soc_value c.args.soc.now).keys) c.args.listed.now c.loop-number.number-index (omega arith) c.loop-number.invariant
