use Rattle.std.proofs.Common.{◌≡◌, ◌∙◌, ◌≤◌, ◌-◌, is_some, not, true, get_or, sym, ap, arith, true≢false, find}
use Rattle.std.proofs.lemmas.Option.{slice_get-get_or}
use Rattle.soc_model.specs.Chips.{soc_value, live_tests}
use Rattle.plan_model.specs.Views.{limits_value}
use Rattle.plan_model.specs.Certificates.{is_called}
use Rattle.bound_certificate.proofs.ChainItems.{no_id, live_found, found_of, first_stands, stands_when}
use Rattle.bound_certificate.proofs.precedence_lists.keeps_chain.Goals as goal

pub returns-then-is_none : goal.returns-then-is_none
returns-then-is_none c = λ id at keeps.
    let found : is_some c.live_time.result ≡ is_some (find (is_called id) (live_tests (soc_value c.args.soc.now))) = found_of (soc_value c.args.soc.now) c.args.limits.now.wires c.args.tests.now c.args.place no_id id c.live_time.result c.live_time.ensures.time at in
    let live = live_found (soc_value c.args.soc.now) id keeps.0 in
    true≢false (sym live ∙ sym found ∙ c.is_none.ensures ∙ ap not c.if-is_none.true)

pub returns-then-place-eq0 : goal.returns-then-place-eq0
returns-then-place-eq0 c = λ id at.
    let found : is_some c.live_time.result ≡ is_some (find (is_called id) (live_tests (soc_value c.args.soc.now))) = found_of (soc_value c.args.soc.now) c.args.limits.now.wires c.args.tests.now c.args.place no_id id c.live_time.result c.live_time.ensures.time at in
    let live : is_some (find (is_called id) (live_tests (soc_value c.args.soc.now))) ≡ true = cc c.is_none.ensures in
    first_stands (soc_value c.args.soc.now) (limits_value c.args.limits.now) c.args.tests.now c.args.place id (omega (arith, c.if-place-eq0.true)) live

pub returns-else-place-eq0 : goal.returns-else-place-eq0
returns-else-place-eq0 c = λ id at.
    let found : is_some c.live_time.result ≡ is_some (find (is_called id) (live_tests (soc_value c.args.soc.now))) = found_of (soc_value c.args.soc.now) c.args.limits.now.wires c.args.tests.now c.args.place no_id id c.live_time.result c.live_time.ensures.time at in
    let live : is_some (find (is_called id) (live_tests (soc_value c.args.soc.now))) ≡ true = cc c.is_none.ensures in
    let later : 1 ≤ c.args.place = omega (arith, c.if-place-eq0.false) in
    let is = c.stands_behind.ensures (get_or c.args.tests.now (c.args.place - 1) no_id) (get_or c.args.tests.now c.args.place no_id) (slice_get-get_or c.args.tests.now (c.args.place - 1) no_id (omega (arith, c.requires.place))) (slice_get-get_or c.args.tests.now c.args.place no_id c.requires.place) in
    let is' = rw c.deref.ensures.value at is in
    stands_when (soc_value c.args.soc.now) (limits_value c.args.limits.now) c.args.tests.now c.args.place no_id id id c.stands_behind.result later c.requires.place at live is'
