use Rattle.std.proofs.Common.{◌≡◌, ◌+◌, ◌-◌, get_or, arith}
use Rattle.std.proofs.lemmas.Option.{get_or_from_slice_get}
use Rattle.bound_certificate.specs.Pairs.{is_among}
use Rattle.bound_certificate.proofs.ChainItems.{no_id}
use Rattle.bound_certificate.proofs.Neighbours.{stated_contains}
use Rattle.bound_certificate.proofs.precedence_lists.stands_behind.Goals as goal

pub returns-then-place : goal.returns-then-place
returns-then-place c = λ a b at at'.
    let first : get_or c.args.tests.now (c.args.place - 1) no_id ≡ a = get_or_from_slice_get c.args.tests.now (c.args.place - 1) a no_id at in
    let second : get_or c.args.tests.now c.args.place no_id ≡ b = get_or_from_slice_get c.args.tests.now c.args.place b no_id at' in
    let back : c.args.place - 1 + 1 ≡ c.args.place = omega (arith, c.requires.later) in
    let stated = c.requires.stated a b (record { place = c.args.place - 1; near = omega (arith, c.if-place.true, c.requires.later); first = at; second = rw back at' }) in
    stated_contains c.args.before.now a b c.is_stated.result (c.is_stated.ensures (is_among c.args.before.now (a, b)) (rw (first, second) stated))

pub returns-else-place : goal.returns-else-place
returns-else-place c = λ a b at at'.
    let first : get_or c.args.tests.now (c.args.place - 1) no_id ≡ a = get_or_from_slice_get c.args.tests.now (c.args.place - 1) a no_id at in
    let second : get_or c.args.tests.now c.args.place no_id ≡ b = get_or_from_slice_get c.args.tests.now c.args.place b no_id at' in
    rw (first, second) at c.is_before.ensures
