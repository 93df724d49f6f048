use Rattle.std.proofs.Common.{◌≡◌, Some, get_or, arith, slice_get}
use Rattle.std.proofs.lemmas.Option.{slice_get-get_or}
use Rattle.soc_model.specs.Chips.{soc_value}
use Rattle.plan_model.specs.Views.{limits_value}
use Rattle.plan_model.specs.Certificates.{IsChainItem}
use Rattle.bound_certificate.proofs.Breached.{none_kept, next_kept, break_here, no_break}
use Rattle.bound_certificate.proofs.ChainItems.{no_id}
use Rattle.bound_certificate.proofs.precedence_lists.chain_breach.Goals as goal

pub loop-place-init : goal.loop-place-init
loop-place-init c = none_kept (IsChainItem (soc_value c.args.soc.now) (limits_value c.args.limits.now)) c.args.tests.now

pub returns-then-not-keeps_chain : goal.returns-then-not-keeps_chain
returns-then-not-keeps_chain c =
    let at : slice_get c.args.tests.now c.loop-place.place ≡ Some (get_or c.args.tests.now c.loop-place.place no_id) = slice_get-get_or c.args.tests.now c.loop-place.place no_id c.loop-place-test.true in
    let broken = rw c.if-not-keeps_chain.true at (c.keeps_chain.ensures (get_or c.args.tests.now c.loop-place.place no_id) at) in
    break_here (IsChainItem (soc_value c.args.soc.now) (limits_value c.args.limits.now)) c.args.tests.now c.loop-place.place (get_or c.args.tests.now c.loop-place.place no_id) c.loop-place.invariant at broken

pub loop-place-preserved : goal.loop-place-preserved
loop-place-preserved c =
    let at : slice_get c.args.tests.now c.loop-place.place ≡ Some (get_or c.args.tests.now c.loop-place.place no_id) = slice_get-get_or c.args.tests.now c.loop-place.place no_id c.loop-place-test.true in
    let kept = rw c.if-not-keeps_chain.false at (c.keeps_chain.ensures (get_or c.args.tests.now c.loop-place.place no_id) at) in
    next_kept (IsChainItem (soc_value c.args.soc.now) (limits_value c.args.limits.now)) c.args.tests.now c.loop-place.place (get_or c.args.tests.now c.loop-place.place no_id) c.loop-place.invariant at kept

pub returns : goal.returns
returns c = no_break (IsChainItem (soc_value c.args.soc.now) (limits_value c.args.limits.now)) c.args.tests.now c.loop-place.place c.loop-place.invariant (omega (arith, c.loop-place-test.false))
